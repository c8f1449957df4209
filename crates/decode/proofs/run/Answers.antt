-- `decode::run` meets its contract: the checks in the table's order, then the reading (document 01, "Refusal numbers"). Assumes nothing.
use Rattle.std.proofs.Common.{refl}
use Rattle.std.proofs.lemmas.Result.{err_from_is_err_and}
use Rattle.picture.proofs.Entry.{run_shorts, run_codes, run_room, run_ready, run_refused, run_read, run_picture}
use Rattle.decode.proofs.run.Goals as goal

pub check_frame-requires : goal.check_frame-requires
check_frame-requires g c = search run_shorts

pub build_all-requires-clause-codes_value : goal.build_all-requires-clause-codes_value
build_all-requires-clause-codes_value g c = (
  c.codes_of-codes.ensures,
  run_codes _ _ _ _ c.codes_of-codes.ensures _ _ _ refl c.check_room-room.ensures _ c.check_frame.ensures c.in_ok-check_frame.was,
)

pub build_all-requires-clause-lengths_in_bounds : goal.build_all-requires-clause-lengths_in_bounds
build_all-requires-clause-lengths_in_bounds g c =
    run_room _ _ _ _ c.codes_of-codes.ensures _ _ _ refl c.check_room-room.ensures _ c.check_frame.ensures c.in_ok-check_frame.was

pub read_planes-requires-clause-ready : goal.read_planes-requires-clause-ready
read_planes-requires-clause-ready g c =
    run_ready
    (record {
      codes_are = c.codes_of-codes.ensures;
      room_says = c.check_room-room.ensures;
      checks_say = c.check_frame.ensures;
      passed = c.in_ok-check_frame.was;
    })
    c.args.g.sound
    (g.met.T.Sample.depth_fits _ c.requires.depth_value)
    c.build_all.ensures.tables

pub returns-in_err-check_frame-clause-answer : goal.returns-in_err-check_frame-clause-answer
returns-in_err-check_frame-clause-answer g c =
    let p = err_from_is_err_and c.from_residual.result c.from_residual.ensures.1 in
    rw (p.1, p.2) (run_refused _ _ _ _ c.codes_of-codes.ensures _ _ _ refl c.check_room-room.ensures _ c.check_frame.ensures _ c.in_err-check_frame.was)

pub returns-clause-answer : goal.returns-clause-answer
returns-clause-answer g c =
    run_read _ _ _ _ c.codes_of-codes.ensures _ _ _ refl c.check_room-room.ensures _ c.check_frame.ensures c.in_ok-check_frame.was
    _ c.build_all.ensures.tables _ c.read_planes.ensures.answer

pub returns-clause-planes : goal.returns-clause-planes
returns-clause-planes g c = λ e.
    run_picture _ _ _ _ c.codes_of-codes.ensures _ _ _ refl c.check_room-room.ensures _ c.check_frame.ensures c.in_ok-check_frame.was
    _ c.build_all.ensures.tables _ c.read_planes.ensures.answer _ e c.read_planes.ensures.planes
