-- Lists of frames that are kept.
use Rattle.std.specs.Prelude.{◌≡◌, ◌⊎◌, List, [], ◌++◌, Contains}
use Rattle.std.proofs.Common.{sym, subst, inl, inr}
use Rattle.std.proofs.lemmas.List.{append-nil}
use Rattle.std.proofs.lemmas.List.Elements.{Contains-append_left, Contains-append_right, Contains-append_cases}
use Rattle.mini_kept.specs.Frames.{Frame, FramesKept}

pub same_frames : (fs gs : List Frame) → fs ≡ gs → FramesKept fs gs
same_frames fs gs e = subst (FramesKept fs) e (λ f x. x)

pub first_of : (fs gs hs : List Frame) → FramesKept fs hs → FramesKept (fs ++ gs) hs
first_of fs gs hs k f x = Contains-append_left fs gs f (k f x)

pub second_of : (fs gs hs : List Frame) → FramesKept gs hs → FramesKept (fs ++ gs) hs
second_of fs gs hs k f x = Contains-append_right fs gs f (k f x)

-- of one list are those of two
pub both_of : (fs gs hs : List Frame) → FramesKept fs gs → FramesKept fs hs → FramesKept fs (gs ++ hs)
both_of fs gs hs k l f x = by (Contains-append_cases gs hs f x)
  where
    by : Contains gs f ⊎ Contains hs f → Contains fs f
    by (inl y) = k f y
    by (inr y) = l f y

-- and of two lists, each of its own
pub each_of : (es fs gs hs : List Frame) → FramesKept es gs → FramesKept fs hs → FramesKept (es ++ fs) (gs ++ hs)
each_of es fs gs hs k l = both_of (es ++ fs) gs hs (first_of es fs gs k) (second_of es fs hs l)

-- of one that stands alone
pub alone_of : (fs gs : List Frame) → FramesKept fs gs → FramesKept fs (gs ++ [])
alone_of fs gs k = subst (FramesKept fs) (sym (append-nil gs)) k
