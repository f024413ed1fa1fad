-- The laws of this crate, each proved in proofs/Kept.antt under the name in lower case.
use Rattle.std.specs.Prelude.{◌≡◌, ℕ, ◌≤◌, ◌<◌, List, length, get_or, None, Result, Ok, Err}
use Rattle.header.specs.declared.reader.Header.{Header}
use Rattle.header.specs.declared.reader.HeaderError.{HeaderError}
use Rattle.header.specs.declared.side.Side.TheVariants.{Width, Height}
use Rattle.header.specs.declared.side.Sides.{Sides}
use Rattle.header.specs.Header.{header_of}
use Rattle.header.specs.Sides.{judged_as}

-- 01, "Files": neither value holds a comma or a point. A line of the keyword width or height is bad where one stands anywhere after the keyword
abbrev pub BadWith : ℕ → Type 0
BadWith c = (limit : ℕ) (t : List ℕ) (s : Sides) (i : ℕ) → i < length t → get_or t i 0 ≡ c
    → (judged_as Width limit t s ≡ None) × (judged_as Height limit t s ≡ None)

pub record NoSeparator : Type 0 where
  pub comma : BadWith 44
  pub point : BadWith 46

-- the data begin in the input or at its end, and a refusal's line in it; the sides are from 1 to the limit
abbrev pub Within : ℕ → ℕ → Result Header HeaderError → Type 0
Within limit bytes (Ok h) = (h.at ≤ bytes) × (1 ≤ h.width) × (h.width ≤ limit) × (1 ≤ h.height) × (h.height ≤ limit)
Within limit bytes (Err e) = e.place ≤ bytes

abbrev pub HeaderWithin : Type 0
HeaderWithin = (limit : ℕ) → 0 < limit → (bytes : List ℕ) → Within limit (length bytes) (header_of limit bytes)
