-- The picture that a reader of words is asked for, and what is refused before the first word. 01, "Refusal numbers".
use Rattle.std.specs.Prelude.{ℕ, Bool, cond, ◌&&◌, leb, ltb, Result, Ok, Err, ⊤}
use Rattle.rows.specs.declared.fault.Fault.{Fault}
use Rattle.rows.specs.declared.fault.Fault.TheVariants.{TooLong, BadPicture}
use Rattle.rows.specs.Runs.{refused, Run, stopped}
use Rattle.words.specs.declared.picture.Picture.{Picture}

-- the picture asked for
abbrev pub picture_of : ℕ → ℕ → Picture
picture_of width height = record { width = width; height = height }

-- width and height from 1 to 2,048
abbrev pub good_picture : Picture → Bool
good_picture p = leb 1 p.width && leb p.width 2048 && leb 1 p.height && leb p.height 2048

-- a pixel of the picture: x below its width, y below its height
unfoldable pub in_picture : Picture → ℕ → ℕ → Bool
in_picture p x y = ltb x p.width && ltb y p.height

-- 1 where there are more than 1,073,741,824 bytes, then 14
unfoldable pub admission_of : ℕ → Picture → Result ⊤ Fault
admission_of bytes p = cond (ltb 1073741824 bytes) (Err TooLong) (cond (good_picture p) (Ok tt) (Err BadPicture))

-- both at place 0 and without rows; else what the words give
abbrev pub admitted : {S : Type 0} → Result ⊤ Fault → Run S → Run S
admitted (Ok done) run = run
admitted (Err f) run = stopped (refused f 0)
