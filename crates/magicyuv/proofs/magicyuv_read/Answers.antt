-- What `magicyuv_read` replies names a place that fits.
use Rattle.magicyuv.proofs.Hosting.{reading_small}
use borrow.Author.Rules.{rules}
use Rattle.magicyuv.proofs.magicyuv_read.Goals as goal

pub reply_of-requires : goal.reply_of-requires
reply_of-requires c = search (reading_small, rules)
