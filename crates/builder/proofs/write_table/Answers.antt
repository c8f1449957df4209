-- `write_table` leaves the table in exactly the words that it needs (document 01, "Words and lookup").
use Rattle.std.proofs.Common.{length, get_or, ◌≤◌, sym}
use lib.Seq.{length-take-le}
use Rattle.builder.proofs.Filling.{filled_front, front_length}
use Rattle.builder.proofs.Written.{marks_room, written}
use Rattle.builder.proofs.write_table.Goals as goal

pub slice_bounds-fill-end : goal.slice_bounds-fill-end
slice_bounds-fill-end c = search marks_room

pub slice_bounds-fill-end-2 : goal.slice_bounds-fill-end-2
slice_bounds-fill-end-2 c =
    let room : get_or c.firsts-first.result 12 0 ≤ length c.place.new.ws = search marks_room in
    sym (length-take-le _ _ room)

pub returns : goal.returns
returns c =
    let h = get_or c.firsts-first.result 12 0 in
    let ws = c.place.new.ws in
    let ys = c.fill.new.self in
    let room : h ≤ length ws = search marks_room in
    let done = filled_front ws h 255 ys room (c.fill.ensures.after (λ y e. e)) in
    let same = front_length ws h ys room c.fill.ensures.len in
    search (written, done, same)
