-- `firsts` gives the first word of each length (document 01, "Words and lookup"): the lengths are known to pass, so that they are
-- counted and their words have room.
use Rattle.std.proofs.Common.{◌≡◌, Some, refl}
use Rattle.words.specs.Tally.{counts_of}
use Rattle.words.specs.Weigh.{firsts_of}
use Rattle.words.proofs.Weighing.{tally_some, begun_some}
use Rattle.words.proofs.firsts.Goals as goal

pub unwrap-count-requires : goal.unwrap-count-requires
unwrap-count-requires c =
    let e : c.tally.result ≡ Some (counts_of c.args.lengths.now) = search tally_some in
    rw e refl

pub unwrap-requires : goal.unwrap-requires
unwrap-requires c =
    let e : c.tally.result ≡ Some (counts_of c.args.lengths.now) = search tally_some in
    let f : c.unwrap-count.result ≡ counts_of c.args.lengths.now = cc in
    let g : c.first_words.result ≡ Some (firsts_of c.args.lengths.now) = search begun_some in
    rw g refl

pub returns : goal.returns
returns c =
    let e : c.tally.result ≡ Some (counts_of c.args.lengths.now) = search tally_some in
    let f : c.unwrap-count.result ≡ counts_of c.args.lengths.now = cc in
    let g : c.first_words.result ≡ Some (firsts_of c.args.lengths.now) = search begun_some in
    cc
