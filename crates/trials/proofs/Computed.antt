-- The edge cases hold by computing them.
use Rattle.std.proofs.Common.{refl}
use Rattle.sheet.specs.Numbers.{number_read}
use Rattle.sheet.specs.Readings.{part_at, reading_from}
use Rattle.std.specs.Fmt.{digits}
use Rattle.trials.specs.Edges.{AllHold, cases}

pub all_hold : AllHold cases
unfolding number_read part_at reading_from digits
all_hold = (
  (refl, refl),
  (
    (refl, refl),
    (
      (refl, refl),
      (
        (refl, refl),
        (
          (refl, refl),
          (
            (refl, refl),
            (
              (refl, refl),
              (
                (refl, refl),
                (
                  (refl, refl),
                  (
                    (refl, refl),
                    tt,
                  ),
                ),
              ),
            ),
          ),
        ),
      ),
    ),
  ),
)
