-- `magicyuv_decode16` replies what document 01's entry answers, or refusal 1 where the numbers say no geometry.
use Rattle.magicyuv.proofs.Said.{off_small}
use Rattle.magicyuv.proofs.Hosting.{hosted_off, hosted_on, entry_small}
use borrow.Author.Rules.{rules}
use Rattle.magicyuv.proofs.entry16.magicyuv_decode16.Goals as goal

pub reply_of-requires : goal.reply_of-requires
reply_of-requires c = search off_small

pub returns-in-Err : goal.returns-in-Err
returns-in-Err c = search hosted_off

pub reply_of-requires-2 : goal.reply_of-requires-2
reply_of-requires-2 c = search (entry_small, rules)

pub returns : goal.returns
returns c = search hosted_on
