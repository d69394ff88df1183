-- All that is said of a program that lost its dead items.
use Rattle.mini_laws.proofs.Places.{renamed_again}
use Rattle.mini_dead.specs.DeadDropped as law
use Rattle.mini_dead.proofs.Again.{dropped_bodies_stay}
use Rattle.mini_dead.proofs.AllFrames.{drops_keep_all_frames}
use Rattle.mini_dead.proofs.Counting.{none_goes}
use Rattle.mini_dead.proofs.KeptNames.{drops_keep_names}
use Rattle.mini_dead.proofs.Shapes.{drops_keep_shape}

pub dead_is_dropped : law.DeadIsDropped
dead_is_dropped t u n e w z =
    let kept = (drops_keep_names t u n w).keeps in
    record {
      drops = w;
      none_left = z;
      unchanged = none_goes t u n w;
      shaped = drops_keep_shape t u n w e;
      bodies = λ once. dropped_bodies_stay t u n w e once;
      frames = λ s. drops_keep_all_frames t u n w e s;
      names = drops_keep_names t u n w;
      resolved = λ s d. renamed_again u (kept.scoped e s) (kept.distinct e s d);
    }
