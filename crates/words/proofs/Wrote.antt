-- What a function that writes a word's rows has done, case by case.
use mathlib.Core.Path.{◌≡◌, refl, sym, ap, subst}
use Prim.Native.Nat.{ℕ, ◌+◌, ◌-◌, ◌*◌, ◌≤◌, ◌<◌}
use native.Mathlib.Omega.{arith}
use mathlib.Core.Bool.{Bool, true, false, cond}
use mathlib.Core.List.{List, [], ◌∷◌}
use lib.ListN.{length}
use lib.Seq.{sets}
use lib.Dec.{leb}
use borrow.Author.Tests.{le-leb, lt-leb, leb-true, leb-false}
use Rattle.std.specs.Prelude.{Result, Ok, Err}
use Rattle.rows.specs.declared.fault.Fault.{Fault}
use Rattle.rows.specs.declared.row.Row.{Row}
use Rattle.rows.specs.Row.{flat, room_of, PutRow}
use Rattle.rows.proofs.Stored.{put_row_fits}
use Rattle.words.specs.declared.Stop.{Stop}
use Rattle.words.specs.declared.Stop.TheVariants.{Full, Refused}
use Rattle.words.specs.declared.Turn.TheVariants.{Stays, Moves, Ticks}
use Rattle.words.specs.Machine.{Outcome, next, fault, Given, gives, refuses, refused_if, onto}
pub use Rattle.words.specs.Written.{next_of}
use Rattle.words.specs.Written.{given_of, IsGiven, GaveAs, StepAs}

-- an outcome is what it gives with its next state, and any state where it is refused
pub given_onto : {S : Type 0} (g : Given) (s : S) → given_of (onto g s) ≡ g
given_onto (gives new) s = refl
given_onto (refuses f) s = refl

pub gave_onto : {S : Type 0} (s : S) {g : Given} {n : ℕ} {old buf : List ℕ} {r : Result ℕ Stop} → GaveAs g n old buf r → GaveAs (given_of (onto g s)) n old buf r
gave_onto s {g} {n} {old} {buf} {r} h = subst (λ (a : Given). GaveAs a n old buf r) (sym (given_onto g s)) h

pub onto_given : {S : Type 0} (o : Outcome S) (s : S) → o ≡ onto (given_of o) (next_of o s)
onto_given (next s' new) s = refl
onto_given (fault f) s = refl

-- and where it is not refused, it leads to that state
pub onto_leads : {S : Type 0} (g : Given) (t s : S) → IsGiven (given_of (onto g t)) → t ≡ next_of (onto g t) s
onto_leads (gives new) t s h = refl
onto_leads (refuses f) t s h = absurd h

pub no_stop : {E : Type 0} {r : Stop} {n : ℕ} → Err r ≡ Ok n → E
no_stop e = let z : ◌≡◌ {A = ℕ} 0 1 = cc in absurd (omega arith)

no_refused_full : {E : Type 0} {f : Fault} → ◌≡◌ {A = Result ℕ Stop} (Err (Refused f)) (Err Full) → E
no_refused_full e = let z : ◌≡◌ {A = ℕ} 0 1 = cc in absurd (omega arith)

same_rows : {m n : ℕ} → ◌≡◌ {A = Result ℕ Stop} (Ok m) (Ok n) → m ≡ n
same_rows e = cc

same_fault : {f g : Fault} → ◌≡◌ {A = Result ℕ Stop} (Err (Refused f)) (Err (Refused g)) → f ≡ g
same_fault e = cc

-- a refused word
pub gave_refused : (f : Fault) (n : ℕ) (old : List ℕ) → GaveAs (refuses f) n old old (Err (Refused f))
gave_refused f n old = record { answer = refl; wrote = refl }

-- rows that fit and were written, or do not fit
module _ (new : List Row) (n : ℕ) {old : List ℕ} where
  pub gave_rows : {buf : List ℕ} {k : ℕ} → length new ≤ room_of old - n → buf ≡ sets old (n * 10) (flat new) → k ≡ n + length new → GaveAs (gives new) n old buf (Ok k)
  gave_rows h b e = record { answer = simp (le-leb _ _ h) (ap Ok e); wrote = simp (le-leb _ _ h) b }

  pub gave_full : room_of old - n < length new → GaveAs (gives new) n old old (Err Full)
  gave_full h = record { answer = simp (lt-leb _ _ h); wrote = simp (lt-leb _ _ h) }

-- where the rows before are within the room, more fit in what is left of it where all of them fit in it
pub fits_alike : (n m room : ℕ) → n ≤ room → leb m (room - n) ≡ leb (n + m) room
fits_alike n m room h = go (leb (n + m) room) refl
  where
    go : (t : Bool) → leb (n + m) room ≡ t → leb m (room - n) ≡ t
    go true e = le-leb _ _ (omega (arith, leb-true _ _ e, h))
    go false e = lt-leb _ _ (omega (arith, leb-false _ _ e, h))

-- no row
pub gave_none : (n : ℕ) (old : List ℕ) → GaveAs (gives []) n old old (Ok n)
gave_none n old = gave_rows [] n (omega arith) refl (omega arith)

-- one row, by rows::put
module _ {row : Row} {n : ℕ} {old buf : List ℕ} {r : Bool} (put : PutRow old n row buf r) where
  pub gave_put : r ≡ true → GaveAs (gives (row ∷ [])) n old buf (Ok (n + 1))
  gave_put t = gave_rows (row ∷ []) n (omega (arith, (put_row_fits put t).0)) (put_row_fits put t).1 refl

-- one row that another function made, by words::give
pub gave_row : {row made : Row} → made ≡ row → {n : ℕ} {old buf : List ℕ} {r : Result ℕ Stop} → GaveAs (gives (made ∷ [])) n old buf r → GaveAs (gives (row ∷ [])) n old buf r
gave_row e {n} {old} {buf} {r} h = subst (λ (q : Row). GaveAs (gives (q ∷ [])) n old buf r) e h

-- a word that is refused where a test is true
pub gave_refused_if : {t : Bool} → t ≡ true → (f : Fault) (n : ℕ) (old : List ℕ) → GaveAs (refused_if t f) n old old (Err (Refused f))
gave_refused_if e f n old = rw e (gave_refused f n old)

pub gave_none_if : {t : Bool} → t ≡ false → (f : Fault) (n : ℕ) (old : List ℕ) → GaveAs (refused_if t f) n old old (Ok n)
gave_none_if e f n old = rw e (gave_none n old)

-- a word read: it is refused or has no room; its rows are written, and it leads to a state, or leaves the one before
module _ {S : Type 0} where
  pub step_stops : (g : Given) (s to : S) {n : ℕ} {old new : List ℕ} {e : Stop} → GaveAs g n old new (Err e) → StepAs (onto g to) s n old new (Err e) s
  step_stops g s to h = record { gave = gave_onto to h; leads = refl }

  pub step_moves : (g : Given) (s t : S) {n : ℕ} {old new : List ℕ} {k : ℕ} → GaveAs g n old new (Ok k) → StepAs (onto g t) s n old new (Ok (Moves k)) t
  step_moves (gives new) s t h = record { gave = h; leads = refl }
  step_moves (refuses f) s t h = no_stop (sym h.answer)

  pub step_ticks : (g : Given) (s t : S) {n : ℕ} {old new : List ℕ} {k : ℕ} → GaveAs g n old new (Ok k) → StepAs (onto g t) s n old new (Ok (Ticks k)) t
  step_ticks (gives new) s t h = record { gave = h; leads = refl }
  step_ticks (refuses f) s t h = no_stop (sym h.answer)

  pub step_stays : (g : Given) (s : S) {n : ℕ} {old new : List ℕ} {k : ℕ} → GaveAs g n old new (Ok k) → StepAs (onto g s) s n old new (Ok (Stays k)) s
  step_stays (gives new) s h = record { gave = h; leads = (refl, refl) }
  step_stays (refuses f) s h = no_stop (sym h.answer)

  -- one that gives no row
  pub step_sets : (s t : S) (n : ℕ) (old : List ℕ) → StepAs (onto (gives []) t) s n old old (Ok (Moves n)) t
  step_sets s t n old = step_moves (gives []) s t (gave_none n old)

  pub step_rests : (s : S) (n : ℕ) (old : List ℕ) → StepAs (onto (gives []) s) s n old old (Ok (Stays n)) s
  step_rests s n old = step_stays (gives []) s (gave_none n old)

-- what the answer says
pub record WroteAll (g : Given) (n : ℕ) (old buf : List ℕ) (k : ℕ) : Type 0 where
  pub new : List Row
  pub given : g ≡ gives new
  pub count : n + length new ≡ k
  pub fits : length new ≤ room_of old - n
  pub wrote : buf ≡ sets old (n * 10) (flat new)

pub gave_all : (g : Given) {n : ℕ} {old buf : List ℕ} {k : ℕ} → GaveAs g n old buf (Ok k) → WroteAll g n old buf k
gave_all (refuses f) h = no_stop (sym h.answer)
gave_all (gives new) {n} {old} {buf} {k} h = go (leb (length new) (room_of old - n)) refl h.answer h.wrote
  where
    go : (t : Bool) → leb (length new) (room_of old - n) ≡ t → Ok k ≡ cond t (Ok (n + length new)) (Err Full) → buf ≡ cond t (sets old (n * 10) (flat new)) old
        → WroteAll (gives new) n old buf k
    go true e a b = record { new = new; given = refl; count = sym (same_rows a); fits = leb-true _ _ e; wrote = b }
    go false e a b = no_stop (sym a)

-- a refusal of the word's own
pub gave_fault : (g : Given) {n : ℕ} {old buf : List ℕ} {f : Fault} → GaveAs g n old buf (Err (Refused f)) → (g ≡ refuses f) × (buf ≡ old)
gave_fault (refuses f') h = (ap refuses (sym (same_fault h.answer)), h.wrote)
gave_fault (gives new) {n} {old} {buf} {f} h = go (leb (length new) (room_of old - n)) h.answer
  where
    go : (t : Bool) → Err (Refused f) ≡ cond t (Ok (n + length new)) (Err Full) → (gives new ≡ refuses f) × (buf ≡ old)
    go true a = no_stop a
    go false a = no_refused_full a

-- no room for the rows
pub record WroteNone (g : Given) (n : ℕ) (old buf : List ℕ) : Type 0 where
  pub new : List Row
  pub given : g ≡ gives new
  pub full : room_of old - n < length new
  pub wrote : buf ≡ old

pub gave_nothing : (g : Given) {n : ℕ} {old buf : List ℕ} → GaveAs g n old buf (Err Full) → WroteNone g n old buf
gave_nothing (refuses f) h = no_refused_full (sym h.answer)
gave_nothing (gives new) {n} {old} {buf} h = go (leb (length new) (room_of old - n)) refl h.answer h.wrote
  where
    go : (t : Bool) → leb (length new) (room_of old - n) ≡ t → Err Full ≡ cond t (Ok (n + length new)) (Err Full) → buf ≡ cond t (sets old (n * 10) (flat new)) old
        → WroteNone (gives new) n old buf
    go true e a b = no_stop a
    go false e a b = record { new = new; given = refl; full = leb-false _ _ e; wrote = b }
