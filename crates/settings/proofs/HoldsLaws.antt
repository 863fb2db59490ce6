-- One call on a store that holds the accepted records: it goes as on their list, and the store holds them still.
use Rattle.std.proofs.Common.{◌≡◌, ℕ, zero, suc, ◌+◌, ◌*◌, ◌<◌, ◌≤◌, Bool, true, false, not, ◌||◌, eqb, ltb, cond, List, [], ◌∷◌, ◌++◌, length, take, drop, get_or, refl, sym, ap, ap₂, ◌∙◌, subst, ⊎_elim, arith, eq-or-lt_of_le}
use Rattle.std.proofs.lemmas.List.{take_at, drop_at, drop-drop, get_or_append_left, get_or_push, flat_map_more, length_push}
use Rattle.std.specs.List.{flat_map}
use Rattle.std.proofs.lemmas.Bool.{eqb-false}
use borrow.Author.Tests.{eq-eqb, eqb-true, ltb-false, le-ltb}
use Rattle.words.proofs.Bytes.{word_bytes}
use Rattle.spans.specs.Parts.{splice}
use Rattle.spans.specs.Refusals.{◌when◌, given, leaves}
use Rattle.spans.proofs.RefusalLaws.{given_after, given_none}
use Rattle.spans.proofs.PartsLaws.{splice-length, take-splice}
use Rattle.settings.specs.declared.Reading.{Reading}
use Rattle.settings.specs.declared.Entry.{Entry}
use Rattle.settings.specs.declared.Entry.TheVariants.{Set, GoBack}
use Rattle.settings.specs.Records.{laid, said, outside, breaks, record_bytes, record_at, broken, zeros, state}
use Rattle.settings.specs.Answers.{refusals, read_number, read_answer, add_number, add_answer, written}
use Rattle.settings.specs.Calls.{Call, Add, Read, Fits32, Adds, Reads, Held, store_answer, store_after, list_number, accepted_at, list_answer, list_after, Holds}
use Rattle.settings.proofs.RecordLaws.{laid-length, version_inside, laid_kept, broken_all}
use Rattle.settings.proofs.StateLaws.{state_same}
use Rattle.settings.proofs.FrontLaws.{record_front}

-- a record that is accepted is read again from its bytes
said_laid : (before : ℕ) (x : Entry) → before ≤ 1024 → Fits32 (Add x) → outside before x ≡ false → said (laid x) ≡ x
unfolding said laid Fits32
said_laid before (Set setting value) few fits h = ap (λ (v : ℕ). Set setting v) (word_bytes value fits)
said_laid before (GoBack version) few fits h = ap (λ (v : ℕ). GoBack v) (word_bytes version (omega (arith, version_inside before version h)))

-- a record that was accepted after n others: it is inside, and its bytes say it
pub record Sound (n : ℕ) (x : Entry) : Type 0 where
  pub inside : outside n x ≡ false
  pub said : said (laid x) ≡ x

-- record i of records laid out one after the other
laid_at : (i : ℕ) (xs : List Entry) (d : Entry) → i < length xs → record_bytes i (flat_map laid xs) ≡ laid (get_or xs i d)
unfolding record_bytes
laid_at i [] d h = absurd (omega arith)
laid_at zero (x ∷ xs) d h = take_at (laid x) (flat_map laid xs) 8 (laid-length x)
laid_at (suc i) (x ∷ xs) d h =
    let on : 8 * suc i ≡ 8 + 8 * i = omega arith in
    ap (λ (k : ℕ). take 8 (drop k (laid x ++ flat_map laid xs))) on
    ∙ ap (take 8) (sym (drop-drop (8 * i) 8 (laid x ++ flat_map laid xs)))
    ∙ ap (λ (l : List ℕ). take 8 (drop (8 * i) l)) (drop_at (laid x) (flat_map laid xs) 8 (laid-length x))
    ∙ laid_at i xs d (omega arith)

-- what holds of a store that holds the accepted records
pub record Right (accepted : List Entry) (h : Held) : Type 0 where
  pub holds : Holds accepted h
  pub each : (i : ℕ) → i < length accepted → Sound i (accepted_at accepted i)

module _ {accepted : List Entry} {h : Held} (r : Right accepted h) where
  -- each used record is the accepted one
  record_held : (i : ℕ) → i < h.used → record_bytes i h.store ≡ laid (accepted_at accepted i)
  unfolding accepted_at
  record_held i k =
      sym (record_front h.used i h.store k) ∙ ap (record_bytes i) r.holds.same ∙ laid_at i accepted (GoBack 0) (omega (arith, r.holds.used))

  said_held : (i : ℕ) → i < h.used → record_at h.store i ≡ accepted_at accepted i
  unfolding record_at
  said_held i k = ap said (record_held i k) ∙ (r.each i (omega (arith, r.holds.used))).said

  -- none of them breaks the layout, so that neither 16 nor 17 is given
  whole : broken h.used h.store ≡ false
  whole =
      broken_all h.store h.used
      (λ i k.
      let g = r.each i (omega (arith, k, r.holds.used)) in ap (breaks i) (record_held i k) ∙ laid_kept i (accepted_at accepted i) g.inside g.said)

  begun : (out full : Bool) → given (refusals h.store h.used out full) ≡ given (18 when out ∷ 19 when full ∷ [])
  unfolding refusals
  begun out full =
      let b : ltb 1024 h.used ≡ false = le-ltb _ _ (omega (arith, r.holds.used, r.holds.few)) in
      given_after (16 when (not (eqb (length h.store) 8192) || ltb 1024 h.used) ∷ 17 when broken h.used h.store ∷ [])
      (18 when out ∷ 19 when full ∷ [])
      (simp (eq-eqb _ _ r.holds.long, b), (whole, tt))

  add_same : (entry : Entry) → add_number h.store h.used entry ≡ list_number (Add entry) (length accepted)
  unfolding add_number list_number
  add_same entry =
      begun (outside h.used entry) (eqb h.used 1024) ∙ ap (λ (n : ℕ). given (18 when outside n entry ∷ 19 when eqb n 1024 ∷ [])) r.holds.used

  read_same : (version : ℕ) → read_number h.store h.used version ≡ list_number (Read version) (length accepted)
  unfolding read_number list_number given
  read_same version = begun (ltb h.used version) false ∙ ap (λ (n : ℕ). given (18 when ltb n version ∷ [])) r.holds.used

  -- a version up to the used number has the state that the accepted records say
  state_held : (version : ℕ) → version ≤ h.used → state (record_at h.store) version ≡ state (accepted_at accepted) version
  state_held version k = state_same _ _ version (λ i l. said_held i (omega (arith, l)))

-- a reading that is not refused has its values
pub read_alike : (n : ℕ) (u v : List ℕ) → (n ≡ 0 → u ≡ v) → read_answer n u ≡ read_answer n v
unfolding read_answer
read_alike n u v h = ap (λ (l : List ℕ). record { number = n; values = l }) (by (eqb n 0) refl)
  where
    by : (b : Bool) → eqb n 0 ≡ b → cond b u zeros ≡ cond b v zeros
    by true z = h (eqb-true n 0 z)
    by false z = refl

-- what no refusal says on the list
read_taken : (version n : ℕ) → list_number (Read version) n ≡ 0 → version ≤ n
unfolding list_number
read_taken version n e = ltb-false _ _ (given_none 17 _ [] e).0

add_taken : (entry : Entry) (n : ℕ) → list_number (Add entry) n ≡ 0 → (outside n entry ≡ false) × (n ≡ 1024 → ⊥)
unfolding list_number
add_taken entry n e =
    let k = given_none 17 (outside n entry) (19 when eqb n 1024 ∷ []) e in (k.0, eqb-false _ _ (given_none 18 _ [] k.1).0)

module _ {accepted : List Entry} {h : Held} (r : Right accepted h) where
  -- a call answers on the store what it answers on the list
  pub answer_held : (c : Call) → store_answer c h ≡ list_answer c accepted
  unfolding store_answer list_answer
  answer_held (Add entry) = ap₂ (λ (n u : ℕ). Adds (add_answer n u)) (add_same r entry) r.holds.used
  answer_held (Read version) =
      ap (λ (n : ℕ). Reads (read_answer n (state (record_at h.store) version))) (read_same r version)
      ∙ ap (λ (a : Reading). Reads a)
      (read_alike (list_number (Read version) (length accepted)) _ _
      (λ e. state_held r version (omega (arith, read_taken version (length accepted) e, r.holds.used))))

  -- after a record that is accepted
  added : (entry : Entry) → Fits32 (Add entry) → list_number (Add entry) (length accepted) ≡ 0
      → Right (accepted ++ entry ∷ []) record { store = written entry h.used h.store; used = h.used + 1 }
  unfolding written accepted_at
  added entry fits e =
      let t = add_taken entry (length accepted) e in
      let long : length (laid entry) ≡ 8 = laid-length entry in
      let room : 8 * h.used + length (laid entry) ≤ length h.store = omega (arith, long, t.1, r.holds.used, r.holds.few, r.holds.long) in
      let next : 8 * (h.used + 1) ≡ 8 * h.used + length (laid entry) = omega (arith, long) in
      let grown = length_push accepted entry in
      record {
        holds =
            record {
              long = splice-length (8 * h.used) (laid entry) h.store room ∙ r.holds.long;
              used = omega (arith, grown, r.holds.used);
              few = omega (arith, grown, r.holds.few, t.1);
              same =
                  ap (λ (k : ℕ). take k (splice (8 * h.used) (laid entry) h.store)) next
                  ∙ take-splice (8 * h.used) (laid entry) h.store room
                  ∙ ap (λ (l : List ℕ). l ++ laid entry) r.holds.same
                  ∙ flat_map_more laid [] accepted entry;
            };
        each =
            λ i k.
            let at : i ≤ length accepted = omega (arith, k, grown) in
            ⊎_elim
            (λ q.
            subst (Sound i) (sym (get_or_push accepted entry (GoBack 0) i (sym q)))
            record { inside = ap (λ (n : ℕ). outside n entry) q ∙ t.0; said = said_laid (length accepted) entry r.holds.few fits t.0 })
            (λ l. subst (Sound i) (sym (get_or_append_left accepted (entry ∷ []) (GoBack 0) i l)) (r.each i l))
            (eq-or-lt_of_le at);
      }

  -- the store holds the accepted records still
  pub still_right : (c : Call) → Fits32 c → Right (list_after c accepted) (store_after c h)
  unfolding list_after store_after leaves add_answer
  still_right (Read version) fits = r
  still_right (Add entry) fits =
      subst (λ (n : ℕ). Right (cond (eqb (list_number (Add entry) (length accepted)) 0) (accepted ++ entry ∷ []) accepted)
      record { store = cond (eqb n 0) (written entry h.used h.store) h.store; used = cond (eqb n 0) (h.used + 1) h.used })
      (sym (add_same r entry)) (by (eqb (list_number (Add entry) (length accepted)) 0) refl)
    where
      by :
          (b : Bool) → eqb (list_number (Add entry) (length accepted)) 0 ≡ b
          → Right (cond b (accepted ++ entry ∷ []) accepted)
          record { store = cond b (written entry h.used h.store) h.store; used = cond b (h.used + 1) h.used }
      by true z = added entry fits (eqb-true _ _ z)
      by false z = r
