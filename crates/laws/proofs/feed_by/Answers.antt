-- `feed_by` meets its promise: that of the feed that it calls. Assumes nothing.
use Rattle.laws.proofs.feed_by.Goals as goal

pub returns-in-Plain : goal.returns-in-Plain
returns-in-Plain c = rw c.in-Plain.is c.feed.ensures

pub returns-in-Split : goal.returns-in-Split
returns-in-Split c = rw c.in-Split.is c.feed-in-Split.ensures

pub returns-in-Matrix : goal.returns-in-Matrix
returns-in-Matrix c = rw c.in-Matrix.is c.feed-in-Matrix.ensures

pub returns-in-Prepared : goal.returns-in-Prepared
returns-in-Prepared c = rw c.in-Prepared.is c.feed-in-Prepared.ensures.0
