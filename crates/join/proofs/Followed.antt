-- Words one after the other, read by a reader that joined and by the full reader: by how many wraps it is behind, and that it finishes with rows
-- that agree word by word.
use mathlib.Core.Path.{◌≡◌, refl, sym, ◌∙◌, ap, ap₂, subst₂}
use mathlib.Core.Logic.{◌⊎◌, inl, inr}
use Prim.Native.Nat.{ℕ, zero, suc, ◌+◌, ◌-◌, ◌≤◌}
use native.Mathlib.Omega.{arith}
use mathlib.Core.Bool.{Bool, true, false}
use mathlib.Core.List.{List, [], ◌∷◌, map}
use lib.ListN.{length, length-map, take, get_or}
use Rattle.rows.specs.declared.row.Row.{Row}
use Rattle.rows.specs.Runs.{Run, finished}
use Rattle.rows.proofs.Sequence.{not_finished}
use Rattle.words.specs.declared.picture.Picture.{Picture}
use Rattle.words.specs.Words.{Words, word, whole, part}
use Rattle.words.specs.Machine.{Outcome, next, fault, Reached, run, rows_by_word}
use Rattle.words.proofs.WordByWord.{FirstWord, first_word, run_next, rows_next}
use Rattle.evt3.specs.declared.kind.Kind.{Kind}
use Rattle.evt3.specs.declared.kind.Kind.TheVariants.{AddrY, AddrX, VectBaseX, Vect12, Vect8, TimeLow}
use Rattle.evt3.specs.declared.kind.Kind.TheVariants.{Continued4, TimeHigh, ExtTrigger, Others, Continued12, Reserved}
use Rattle.evt3.specs.declared.state.State.{State}
use Rattle.evt3.specs.Reader.{machine}
use Rattle.evt3.specs.Words.{kind_of, step}
use Rattle.join.specs.declared.seen.Seen.{Seen}
use Rattle.join.specs.Join.{later, Agrees}
use Rattle.join.specs.Seen.{seen_with, seen_after, all_seen, list_of}
use Rattle.join.proofs.Behind.{Behind, Covers}
use Rattle.join.proofs.Stepped.{Stepped, kind_stepped}

-- rows that agree word by word, and so at each word
pub data AgreeWords (n : ℕ) : Seen → Words → List (List Row) → List (List Row) → Type 0 where
  done : {seen : Seen} → AgreeWords n seen whole [] []
  more : {seen : Seen} {w : ℕ} {ws : Words} {joined full : List Row} {js fs : List (List Row)}
      → Agrees n (all_seen seen) joined full → AgreeWords n (seen_with (kind_of w) seen) ws js fs → AgreeWords n seen (word w ws) (joined ∷ js) (full ∷ fs)

pub agree_at : {n : ℕ} {seen : Seen} {ws : Words} {js fs : List (List Row)} → AgreeWords n seen ws js fs → (i : ℕ)
    → Agrees n (all_seen (seen_after seen (take i (list_of ws)))) (get_or js i []) (get_or fs i [])
agree_at done i = record { given = inl refl; all = λ _. refl }
agree_at (more a r) zero = a
agree_at (more a r) (suc i) = agree_at r i

pub agree_count : {n : ℕ} {seen : Seen} {ws : Words} {js fs : List (List Row)} → AgreeWords n seen ws js fs → length fs ≡ length js
agree_count done = refl
agree_count (more a r) = ap suc (agree_count r)

-- of one word, the joined reader gives no more rows than the full reader
no_more : {n : ℕ} {sure : Bool} (joined full : List Row) → Agrees n sure joined full → length joined ≤ length full
no_more {n} joined full a = go a.given
  where
    go : (joined ≡ []) ⊎ (full ≡ map (later n) joined) → length joined ≤ length full
    go (inl e) = omega (arith, ap length e)
    go (inr e) = omega (arith, ap length e, length-map joined (later n))

-- a TIME_HIGH that was seen stays so
unseen_before : (k : Kind) (seen : Seen) → (seen_with k seen).high ≡ false → seen.high ≡ false
unseen_before TimeHigh seen e = absurd cc
unseen_before AddrY seen e = e
unseen_before AddrX seen e = e
unseen_before VectBaseX seen e = e
unseen_before Vect12 seen e = e
unseen_before Vect8 seen e = e
unseen_before TimeLow seen e = e
unseen_before ExtTrigger seen e = e
unseen_before Continued4 seen e = e
unseen_before Others seen e = e
unseen_before Continued12 seen e = e
unseen_before Reserved seen e = e

-- the full reader's wrap count after the first TIME_HIGH that is seen: by so many wraps the joined reader, which counts from there, is behind
abbrev wraps_or : Outcome State → Bool → (State → ℕ) → ℕ
wraps_or (next t new) true rest = t.wraps
wraps_or (next t new) false rest = rest t
wraps_or (fault f) seen rest = 0

module _ (p : Picture) where
  abbrev pub wraps_from : Seen → Words → State → ℕ
  wraps_from seen (word w ws) t = wraps_or (step p t w) (seen_with (kind_of w) seen).high (λ t'. wraps_from (seen_with (kind_of w) seen) ws t')
  wraps_from seen whole t = 0
  wraps_from seen part t = 0

  wraps_word : (seen : Seen) (w : ℕ) (ws : Words) (t : State) {t' : State} {new : List Row} → step p t w ≡ next t' new
      → (b : Bool) → (seen_with (kind_of w) seen).high ≡ b
      → wraps_from seen (word w ws) t ≡ wraps_or (next t' new) b (λ t''. wraps_from (seen_with (kind_of w) seen) ws t'')
  wraps_word seen w ws t e b f = ap₂ (λ (o : Outcome State) (c : Bool). wraps_or o c (λ t''. wraps_from (seen_with (kind_of w) seen) ws t'')) e f

  word_stepped : {n : ℕ} {seen : Seen} {s t : State} (w : ℕ) {t' : State} {new : List Row} → Behind n s t → Covers seen s
      → ((seen_with (kind_of w) seen).high ≡ true → seen.high ≡ false → n ≡ t'.wraps) → step p t w ≡ next t' new
      → Stepped n (all_seen seen) (seen_with (kind_of w) seen) (step p s w) t' new
  unfolding step
  word_stepped w h c first e = kind_stepped h c (kind_of w) p w first e

  -- what the joined reader does from a state on: it finishes, whatever the places, with rows that agree
  pub record Followed (n : ℕ) (seen : Seen) (ws : Words) (s t : State) (place from room : ℕ) : Type 0 where
    pub end : Reached State
    pub finishes : (run (machine p) ws s place room).ending ≡ finished end
    pub agree : AgreeWords n seen ws (rows_by_word (machine p) ws s place) (rows_by_word (machine p) ws t from)

  -- a word and those after it
  word_followed : {n : ℕ} {seen : Seen} (w : ℕ) {ws : Words} {s t : State} {place from room less : ℕ} {end : Reached State}
      (b : FirstWord (machine p) w ws t from less end)
      (q : Stepped n (all_seen seen) (seen_with (kind_of w) seen) (step p s w) b.state b.new) → less ≤ room
      → Followed n (seen_with (kind_of w) seen) ws q.state b.state (place + 2) (from + 2) (room - length q.joined)
      → Followed n seen (word w ws) s t place from room
  word_followed {n} {seen} w {ws} {s} {t} {place} {from} {room} {less} b q fits r =
      record {
        end = r.end;
        finishes = ap (λ (x : Run (Reached State)). x.ending) (run_next (machine p) w ws place q.step room enough) ∙ r.finishes;
        agree =
            subst₂ (λ (js fs : List (List Row)). AgreeWords n seen (word w ws) js fs)
            (sym (rows_next (machine p) w ws place q.step))
            (sym (rows_next (machine p) w ws from b.step))
            (more q.agrees r.agree);
      }
    where
      enough : length q.joined ≤ room
      enough = omega (arith, no_more q.joined b.new q.agrees, b.fits)

  -- the full reader finishes from t on, in no more room; n is the number of wraps from the first TIME_HIGH on
  pub followed : (n : ℕ) (seen : Seen) (ws : Words) (s t : State) (place from room less : ℕ) (end : Reached State) → Behind n s t → Covers seen s
      → (seen.high ≡ false → n ≡ wraps_from seen ws t) → less ≤ room → (run (machine p) ws t from less).ending ≡ finished end
      → Followed n seen ws s t place from room
  followed n seen whole s t place from room less end h c wraps fits e =
      record { end = record { state = s; place = place }; finishes = refl; agree = done }
  followed n seen part s t place from room less end h c wraps fits e = not_finished e
  followed n seen (word w ws) s t place from room less end h c wraps fits e =
      let b : FirstWord (machine p) w ws t from less end = first_word (machine p) w ws t from less e in
      let q : Stepped n (all_seen seen) (seen_with (kind_of w) seen) (step p s w) b.state b.new =
      word_stepped w h c (λ f g. wraps g ∙ wraps_word seen w ws t b.step true f) b.step in
      word_followed w b q fits
      (followed n (seen_with (kind_of w) seen) ws q.state b.state (place + 2) (from + 2) (room - length q.joined) (less - length b.new) end
      q.behind q.covers (λ f. wraps (unseen_before (kind_of w) seen f) ∙ wraps_word seen w ws t b.step false f)
      (omega (arith, no_more q.joined b.new q.agrees, b.fits)) b.rest)
