-- What `magicyuv_build` replies names a place that fits.
use Rattle.magicyuv.proofs.Hosting.{built_small}
use borrow.Author.Rules.{rules}
use Rattle.magicyuv.proofs.magicyuv_build.Goals as goal

pub reply_of-requires : goal.reply_of-requires
reply_of-requires c = search (built_small, rules)
