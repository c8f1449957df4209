-- Request L10: what specs/Smallest.antt says, computed. Assumes nothing.
use mathlib.Core.Path.{refl}
use native.Mathlib.Omega.{arith}
use Rattle.scope.specs.Base.{count, sum_below}
use Rattle.scope.specs.Refusals.{rows_of_each}
use Rattle.scope.specs.Geometry.{size_fits, factor_fits, geometry_fits, factors_divide, slice_height_divides, small, plane_width, plane_height, plane_slice_height, rows_at, plane_samples, all_samples, lengths_of}
use Rattle.scope.specs.Layout.{le32, entry, preamble_end, count_byte, plane_index, named_before, place_in_plane, slice_start, slice_end, is_raw, payload_of, samples_in}
use Rattle.scope.specs.Words.{longest, shorter, shortest, too_long, share, shares, overfull, need_from, need}
use Rattle.scope.specs.Frame.{need_of_all, fewest_bytes}
use Rattle.scope.specs.Known.{shape, plain, code, wordless, le, entries, joined, frame_of}
use Rattle.within.specs.Smallest.{applying, tests, Without2, Without3, Without8, PastTheLast, Without1, Without3Beyond, Without12ByBounds, Without12BySize, WithoutRaw, Tight, NoMoreThanItMust}

-- opens the definitions that are computed
opened : Unit {0}
unfolding count sum_below rows_of_each size_fits factor_fits geometry_fits factors_divide slice_height_divides small plane_width plane_height plane_slice_height rows_at plane_samples all_samples lengths_of
    le32 entry preamble_end count_byte plane_index named_before place_in_plane slice_start slice_end is_raw payload_of samples_in
    longest shorter shortest too_long share shares overfull need_from need need_of_all fewest_bytes shape plain code wordless le entries joined frame_of applying tests
opened = tt

without_2 : Without2
unfolding opened
without_2 =
    record {
      size_is = refl;
      just = refl;
      stands = record { first_is = refl; height_is = refl; rows_is = refl };
      fails = λ c. omega (arith, c.begins);
    }

without_3 : Without3
unfolding opened
without_3 =
    record {
      size_is = refl;
      just = refl;
      stands = record { first_is = refl; height_is = refl; rows_is = refl };
      fails = λ c. omega (arith, c.some);
    }

without_8 : Without8
unfolding opened
without_8 =
    record {
      size_is = refl;
      just = refl;
      stands = record { first_is = refl; height_is = refl; rows_is = refl };
      fails = λ c. omega (arith, c.begins);
    }

past_the_last : PastTheLast
unfolding opened
past_the_last =
    record {
      size_is = refl;
      just = refl;
      stands = record { first_is = refl; height_is = refl; rows_is = refl };
      fails = λ c. omega (arith, c.begins);
    }

without_1 : Without1
unfolding opened
without_1 = record { just = refl; k_is = refl; first_is = refl; height_is = refl; fails = λ c. omega arith }

without_3_beyond : Without3Beyond
unfolding opened
without_3_beyond = record { just = refl; k_is = refl; first_is = refl; height_is = refl; fails = λ c. omega arith }

without_12_by_bounds : Without12ByBounds
unfolding opened
without_12_by_bounds =
    record { size_is = refl; before = refl; just = refl; raw_is = refl; samples_is = refl; bytes_is = refl; fails = λ c. omega (arith, c.bytes) }

without_12_by_size : Without12BySize
unfolding opened
without_12_by_size =
    record { size_is = refl; before = refl; just = refl; raw_is = refl; samples_is = refl; bytes_is = refl; fails = λ c. omega (arith, c.bytes) }

without_raw : WithoutRaw
unfolding opened
without_raw =
    record { size_is = refl; before = refl; just = refl; raw_is = refl; samples_is = refl; bytes_is = refl; fails = λ c. omega (arith, c.bytes) }

-- every bound is met exactly
tight : Tight
unfolding opened
tight =
    record { before = refl; just = refl; raw_is = refl; stands = record { first_is = refl; height_is = refl; rows_is = refl }; bytes_are = refl; bits_are = refl }

pub no_more_than_it_must : NoMoreThanItMust
no_more_than_it_must =
    record {
      two = without_2;
      three = without_3;
      eight = without_8;
      last = past_the_last;
      one_beyond = without_1;
      three_beyond = without_3_beyond;
      bounds = without_12_by_bounds;
      size = without_12_by_size;
      raw = without_raw;
      tight = tight;
    }
