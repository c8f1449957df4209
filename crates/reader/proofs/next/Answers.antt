-- `next` is one step from its position: what the reader finds there, and the position behind it. Assumes nothing.
use Rattle.std.proofs.Common.{◌≡◌, ◌∙◌}
use Rattle.scope.specs.Lookup.{lookup_in}
use Rattle.reader.proofs.Stepping.{steps_whole}
use Rattle.reader.proofs.next.Goals as goal

pub returns : goal.returns
returns c =
    let found : c.word-found.result ≡ lookup_in c.args.words.now c.args.m c.args.payload.now c.args.at =
    cc (c.over-r.ensures.0, c.over-r.ensures.1, c.word-found.ensures) in
    steps_whole _ _ _ _ found c.over-r.ensures.1 _ _ c.step.ensures (c.position.ensures ∙ c.past.ensures.1)
