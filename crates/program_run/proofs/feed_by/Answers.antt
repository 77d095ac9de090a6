-- `feed_by` meets its promise: each engine answers what its own feed does. Assumes nothing.
use Rattle.program_run.proofs.feed_by.Goals as goal

pub returns-in-Plain : goal.returns-in-Plain
returns-in-Plain c = rw c.in-Plain.is c.feed.ensures

pub returns-in-Matrix : goal.returns-in-Matrix
returns-in-Matrix c = rw c.in-Matrix.is c.feed-in-Matrix.ensures

pub returns-in-Index : goal.returns-in-Index
returns-in-Index c = rw c.in-Index.is c.feed-in-Index.ensures.0
