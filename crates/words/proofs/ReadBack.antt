-- Words that a machine reads one after the other without a refusal, and the rows that they give.
use mathlib.Core.Path.{◌≡◌, refl, sym, ◌∙◌, ap}
use Prim.Native.Nat.{ℕ, ◌+◌, ◌-◌, ◌^◌, ◌≤◌, ◌<◌}
use native.Mathlib.Omega.{arith}
use native.Mathlib.Nat.{sub-zero}
use mathlib.Core.Bool.{true, false}
use mathlib.Core.List.{List, [], ◌∷◌, ◌++◌, append-nil}
use lib.ListN.{length, length-append}
use borrow.Author.Tests.{le-leb, le-ltb}
use Rattle.rows.specs.declared.row.Row.{Row}
use Rattle.rows.specs.Runs.{finished, Run, prepend, stopped, and_then, Finishes}
use Rattle.rows.proofs.Sequence.{prepend_none, prepend_both}
use Rattle.words.specs.declared.picture.Picture.{Picture}
use Rattle.words.specs.Picture.{good_picture, admission_of, admitted}
use Rattle.words.specs.Words.{Words, word, whole, cut_by, words_of, bytes_of_all}
use Rattle.words.specs.Machine.{next, Machine, Reached, run, closed, reading, read_from}
use Rattle.words.specs.Promises.{Small, before}
use Rattle.words.proofs.Bytes.{words_back}

-- some words after others
before_both : (a b : List ℕ) (rest : Words) → before (a ++ b) rest ≡ before a (before b rest)
before_both [] b rest = refl
before_both (w ∷ a) b rest = ap (word w) (before_both a b rest)

small_both : (size : ℕ) (a b : List ℕ) → Small size a → Small size b → Small size (a ++ b)
small_both size [] b h g = g
small_both size (w ∷ a) b h g = (h.0, small_both size a b h.1 g)

module _ {S : Type 0} (m : Machine S) where
  -- the words `ws` lead from the state s at a place to s' at a place, and give the rows `rs` wherever there is room for them
  pub record Leads (ws : List ℕ) (s : S) (at : ℕ) (rs : List Row) (s' : S) (at' : ℕ) : Type 0 where
    pub runs : (rest : Words) (room : ℕ) → length rs ≤ room → run m (before ws rest) s at room ≡ prepend rs (run m rest s' at' (room - length rs))

  pub leads_none : (s : S) (at : ℕ) → Leads [] s at [] s at
  leads_none s at = record { runs = λ rest room h. ap (λ (n : ℕ). run m rest s at n) (sym (sub-zero room)) }

module _ {S : Type 0} {m : Machine S} where
  pub leads_word : {w : ℕ} {s : S} {at : ℕ} {rs : List Row} {s' : S} → m.step s at w ≡ next s' rs → Leads m (w ∷ []) s at rs s' (at + m.size)
  leads_word {w} {s} {at} {rs} {s'} e = record { runs = λ rest room h. rw e (simp (le-leb (length rs) room h)) }

  pub leads_both : {ws₁ ws₂ : List ℕ} {s₁ s₂ s₃ : S} {at₁ at₂ at₃ : ℕ} {rs₁ rs₂ : List Row}
      → Leads m ws₁ s₁ at₁ rs₁ s₂ at₂ → Leads m ws₂ s₂ at₂ rs₂ s₃ at₃ → Leads m (ws₁ ++ ws₂) s₁ at₁ (rs₁ ++ rs₂) s₃ at₃
  leads_both {ws₁} {ws₂} {s₁} {s₂} {s₃} {at₁} {at₂} {at₃} {rs₁} {rs₂} h g =
      record {
        runs =
            λ rest room f.
            let both : length (rs₁ ++ rs₂) ≡ length rs₁ + length rs₂ = length-append rs₁ rs₂ in
            let left : room - length rs₁ - length rs₂ ≡ room - length (rs₁ ++ rs₂) = omega (arith, both) in
            ap (λ (ws : Words). run m ws s₁ at₁ room) (before_both ws₁ ws₂ rest)
            ∙ h.runs (before ws₂ rest) room (omega (arith, both))
            ∙ ap (prepend rs₁) (g.runs rest (room - length rs₁) (omega (arith, both)))
            ∙ prepend_both rs₁ rs₂ (run m rest s₃ at₃ (room - length rs₁ - length rs₂))
            ∙ ap (λ (n : ℕ). prepend (rs₁ ++ rs₂) (run m rest s₃ at₃ n)) left;
      }

  -- and so they are read, where no group is left in hand
  leads_finishes : {ws : List ℕ} {s s' : S} {at at' : ℕ} {rs : List Row} → Leads m ws s at rs s' at' → m.pending s' ≡ false
      → (room : ℕ) → length rs ≤ room → Finishes (reading m (before ws whole) s at room) rs
  leads_finishes {ws} {s} {s'} {at} {at'} {rs} h p room f =
      let end : Reached S = record { state = s'; place = at' } in
      let ran : run m (before ws whole) s at room ≡ record { rows = rs; ending = finished end } = h.runs whole room f ∙ prepend_none rs (finished end) in
      let all : reading m (before ws whole) s at room ≡ prepend rs (stopped (finished end)) = ap (λ (r : Run (Reached S)). and_then r room (closed m)) ran ∙ rw p in
      record {
        state = end;
        rows = ap (λ (r : Run (Reached S)). r.rows) all ∙ append-nil rs;
        ending = ap (λ (r : Run (Reached S)). r.ending) all;
      }

-- words of the machine's size that give rows to a reader, and lead it to a state of which P holds
pub record Goes {S : Type 0} (m : Machine S) (ws : List ℕ) (s : S) (at : ℕ) (rs : List Row) (P : S → Type 0) : Type 0 where
  pub state : S
  pub place : ℕ
  pub leads : Leads m ws s at rs state place
  pub small : Small m.size ws
  pub holds : P state

module _ {S : Type 0} {m : Machine S} {P : S → Type 0} where
  pub goes_none : {s : S} {at : ℕ} → P s → Goes m [] s at [] P
  goes_none {s} {at} h = record { state = s; place = at; leads = leads_none m s at; small = tt; holds = h }

  pub goes_word : {w : ℕ} {s s' : S} {at : ℕ} {rs : List Row} → w < 256 ^ m.size → m.step s at w ≡ next s' rs → P s' → Goes m (w ∷ []) s at rs P
  goes_word {s' = s'} {at = at} l e h = record { state = s'; place = at + m.size; leads = leads_word e; small = (l, tt); holds = h }

  pub goes_both : {a b : List ℕ} {s : S} {at : ℕ} {rs rs' : List Row} {Q : S → Type 0}
      → Goes m a s at rs P → ((s' : S) (at' : ℕ) → P s' → Goes m b s' at' rs' Q) → Goes m (a ++ b) s at (rs ++ rs') Q
  goes_both {a} {b} h f =
      let g = f h.state h.place h.holds in
      record {
        state = g.state;
        place = g.place;
        leads = leads_both h.leads g.leads;
        small = small_both m.size a b h.small g.small;
        holds = g.holds;
      }

-- the words of their bytes
words_of_bytes : (size : ℕ) → 0 < size → (ws : List ℕ) → Small size ws → words_of size (bytes_of_all size ws) ≡ before ws whole
unfolding words_of cut_by
words_of_bytes size some ws h = ap (words_of size) (sym (append-nil (bytes_of_all size ws))) ∙ words_back size some ws [] h

-- so a reader of those bytes gives the rows and finishes, if they are not too many and no group is left in hand
pub goes_finishes : {S : Type 0} {m : Machine S} {ws : List ℕ} {s : S} {rs : List Row} {P : S → Type 0} → Goes m ws s 0 rs P
    → ((s' : S) → P s' → m.pending s' ≡ false) → 0 < m.size → (p : Picture) → good_picture p ≡ true
    → length (bytes_of_all m.size ws) ≤ 1073741824 → (room : ℕ) → length rs ≤ room
    → Finishes (admitted (admission_of (length (bytes_of_all m.size ws)) p) (read_from m (bytes_of_all m.size ws) s 0 room)) rs
unfolding admission_of
goes_finishes {m = m} {ws} h free some p good short room fits =
    rw (le-ltb _ _ short, good, words_of_bytes m.size some ws h.small) (leads_finishes h.leads (free h.state h.holds) room fits)
