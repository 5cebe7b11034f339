-- A file of version 1 reads as before: rows 11 and 15 never hold, and the second row 10 asks what the first did.
use mathlib.Core.Path.{◌≡◌, refl}
use mathlib.Core.Bool.{Bool, true, false, cond}
use lib.Dec.{ltb}
use lib.ListN.{length}
use Rattle.surface.specs.SurveyFile.{spacings_in, tenths_of, heights_in}
use Rattle.surface.specs.Refusals.{verdict, read_verdict}
use Rattle.surface.specs.FirstVersion.{first_tenths, FirstVersions}

twice : {A : Type 0} (b : Bool) (x y : A) → cond b x (cond b x y) ≡ cond b x y
twice true x y = refl
twice false x y = refl

pub first-version : FirstVersions
unfolding spacings_in verdict read_verdict first_tenths tenths_of heights_in
first-version file e =
    record {
      refused = λ hs. rw e (twice (ltb (length file) 7) _ _);
      spaced = rw e;
      heights = λ n. rw e;
    }
