-- Messages with the words of their sources.
use Rattle.std.proofs.Common.{◌≡◌, ◌≢◌, ℕ, zero, suc, ◌+◌, ◌-◌, ◌<◌, ◌≤◌, min, Bool, true, false, cond, eqb, ne_eqb, leb, Option, Some, None, List, [], ◌∷◌, ◌++◌, length, take, drop, get_or, refl, sym, ap, ap₂, ◌∙◌, subst, ⊎_elim, arith}
use Rattle.std.specs.Prelude.{◌&&◌, slice_get, slice_set}
use Rattle.std.proofs.lemmas.List.{append_assoc, length-append, length-drop, length-set, length-take-le, drop_more, take_more, set_at}
use Rattle.std.specs.List.{filter_map}
use Rattle.std.specs.Option.{option_or}
use Rattle.std.proofs.lemmas.Bool.{leb-true, le-leb, eqb-true, eqb-false, and_parts, or_cases, agree_below, agree_below_at}
use Rattle.std.proofs.lemmas.List.Elements.{filter_map-append}
use Rattle.mil_message.specs.declared.forms.Form.{Form}
use Rattle.mil_message.specs.declared.forms.Form.TheVariants.{ToTerminal, FromTerminal, Between, Mode, ModeFrom, ModeTo, ToAll, BetweenAll, ModeAll, ModeAllTo}
use Rattle.mil_message.specs.declared.faults.BadMessage.{BadMessage}
use Rattle.mil_message.specs.declared.faults.BadMessage.TheVariants.{Address, Subaddress, CountOrCode, ModeWord}
use Rattle.mil_message.specs.Forms.{data_words, with_data_words, first_or}
use Rattle.mil_message.specs.Rules.{IsLawful, first_fault, is_address, is_subaddress, is_count, is_code_to}
use Rattle.controller_host.specs.declared.destinations.Destination.{Destination}
use Rattle.controller_host.specs.declared.destinations.Destination.TheVariants as to
use Rattle.controller_host.specs.declared.controls.Control.{Control}
use Rattle.controller_host.specs.declared.controls.Control.TheVariants as control
use Rattle.controller_host.specs.Values.{NewWordsValue, RampValue, InsertionValue}
use Rattle.controller_host.specs.declared.sources.Source.{Source}
use Rattle.controller_host.specs.declared.sources.Source.TheVariants.{Ramp}
use Rattle.controller_host.specs.Destinations.{IsPlace, IsCode, is_code, is_same, destination_of}
use Rattle.controller_host.specs.Sources.{set_by, with_sources, word_source, word_at, sourced, sourced_words, sourced_to}
use Rattle.bc_machine.specs.declared.placed.Placed.{Placed}
use Rattle.bc_machine.specs.Controller.{control_of}
use Rattle.bc_machine.specs.Hosting.{placed_at}
use Rattle.bc_machine.specs.Asking.{controls_at, filled_by, put_over, with_controls}
use Rattle.bc_machine.proofs.Queued.{at_both}

-- ---- places of a lawful message

rule_met : (b : Bool) (fault : BadMessage) (more : List (Bool × BadMessage)) → first_fault ((b, fault) ∷ more) ≡ None → (b ≡ true) × (first_fault more ≡ None)
rule_met true fault more h = (refl, h)
rule_met false fault more h = absurd cc

codes : agree_below is_code_to is_code 32 ≡ true
codes = refl

code_in : (code : ℕ) → is_code_to code ≡ true → IsCode code
code_in code h =
    let high : code ≤ 31 = leb-true code 31 (and_parts (leb code 31) _ h).0 in
    let is : is_code code ≡ true = sym (agree_below_at is_code_to is_code 32 code codes (omega (arith, high))) ∙ h in
    ⊎_elim (λ one. let e = eqb-true code 17 one in (omega (arith, e), high, λ f. omega (arith, e, f), λ f. omega (arith, e, f)))
    (λ others.
    let low = leb-true 20 code (and_parts (leb 20 code) (leb code 31) others).0 in
    (omega (arith, low), high, λ f. omega (arith, low, f), λ f. omega (arith, low, f)))
    (or_cases (eqb code 17) (leb 20 code && leb code 31) is)

subaddress_in : (n : ℕ) → is_subaddress n ≡ true → (1 ≤ n) × (n ≤ 30)
subaddress_in n h = let parts = and_parts (leb 1 n) (leb n 30) h in (leb-true 1 n parts.0, leb-true n 30 parts.1)

count_in : (n : ℕ) → is_count n ≡ true → n ≤ 32
count_in n h = leb-true n 32 (and_parts (leb 1 n) (leb n 32) h).1

pub place_in : (form : Form) (d : Destination) (place : ℕ) → IsLawful form → destination_of form ≡ Some d → 1 ≤ place → place ≤ length (data_words form) → IsPlace d place
place_in (ToTerminal address subaddress words) d place lawful e low high =
    let first = rule_met (is_address address) Address ((is_subaddress subaddress, Subaddress) ∷ (is_count (length words.items), CountOrCode) ∷ []) lawful in
    let second = rule_met (is_subaddress subaddress) Subaddress ((is_count (length words.items), CountOrCode) ∷ []) first.1 in
    let third = rule_met (is_count (length words.items)) CountOrCode [] second.1 in
    let count = count_in (length words.items) third.0 in
    let is : to.Terminal address subaddress ≡ d = cc in
    subst (λ v. IsPlace v place) is (record { destination = (leb-true address 30 first.0, subaddress_in subaddress second.0); low = low; high = omega (arith, high, count) })
place_in (ToAll subaddress words) d place lawful e low high =
    let first = rule_met (is_subaddress subaddress) Subaddress ((is_count (length words.items), CountOrCode) ∷ []) lawful in
    let second = rule_met (is_count (length words.items)) CountOrCode [] first.1 in
    let count = count_in (length words.items) second.0 in
    let is : to.All subaddress ≡ d = cc in
    subst (λ v. IsPlace v place) is (record { destination = subaddress_in subaddress first.0; low = low; high = omega (arith, high, count) })
place_in (ModeTo address subaddress code word) d place lawful e low high =
    let first = rule_met (is_address address) Address ((is_code_to code, CountOrCode) ∷ (true, ModeWord) ∷ []) lawful in
    let second = rule_met (is_code_to code) CountOrCode ((true, ModeWord) ∷ []) first.1 in
    let is : to.Mode address code ≡ d = cc in
    subst (λ v. IsPlace v place) is (record { destination = (leb-true address 30 first.0, code_in code second.0); low = low; high = high })
place_in (ModeAllTo subaddress code word) d place lawful e low high =
    let first = rule_met (is_code_to code) CountOrCode ((true, ModeWord) ∷ []) lawful in
    let is : to.ModeToAll code ≡ d = cc in
    subst (λ v. IsPlace v place) is (record { destination = code_in code first.0; low = low; high = high })
place_in (FromTerminal address subaddress count) d place lawful e low high = absurd cc
place_in (Between sender s receiver r count) d place lawful e low high = absurd cc
place_in (Mode address subaddress code) d place lawful e low high = absurd cc
place_in (ModeFrom address subaddress code) d place lawful e low high = absurd cc
place_in (BetweenAll sender s r count) d place lawful e low high = absurd cc
place_in (ModeAll subaddress code) d place lawful e low high = absurd cc

-- ---- words

words_same : (s t : ℕ → Option Source) (place : ℕ) (words : List ℕ) → ((i : ℕ) → place ≤ i → i < place + length words → s i ≡ t i) → sourced_words s place words ≡ sourced_words t place words
words_same s t place [] same = refl
words_same s t place (own ∷ rest) same =
    ap₂ (λ (w : ℕ) (ws : List ℕ). w ∷ ws) (ap (λ o. word_at o own) (same place (omega arith) (omega arith)))
    (words_same s t (place + 1) rest (λ i low high. same i (omega (arith, low)) (omega (arith, high))))

words_own : (s : ℕ → Option Source) (place : ℕ) (words : List ℕ) → ((i : ℕ) → s i ≡ None) → sourced_words s place words ≡ words
words_own s place [] none = refl
words_own s place (own ∷ rest) none =
    ap₂ (λ (w : ℕ) (ws : List ℕ). w ∷ ws) (ap (λ o. word_at o own) (none place)) (words_own s (place + 1) rest none)

word_twice : (a b : Option Source) (own : ℕ) → word_at a (word_at b own) ≡ word_at (option_or a b) own
word_twice None b own = refl
word_twice (Some s) b own = refl

words_twice : (s t : ℕ → Option Source) (place : ℕ) (words : List ℕ) → sourced_words s place (sourced_words t place words) ≡ sourced_words (λ i. option_or (s i) (t i)) place words
words_twice s t place [] = refl
words_twice s t place (own ∷ rest) = ap₂ (λ (w : ℕ) (ws : List ℕ). w ∷ ws) (word_twice (s place) (t place) own) (words_twice s t (place + 1) rest)

-- ---- messages

abbrev Sources : Type 0
Sources = Destination → ℕ → Option Source

pub sourced_same : (s t : Sources) (form : Form) → IsLawful form → ((d : Destination) (place : ℕ) → IsPlace d place → s d place ≡ t d place) → sourced s form ≡ sourced t form
unfolding sourced
sourced_same s t form lawful same = by_destination (destination_of form) refl
  where
    by_destination : (o : Option Destination) → destination_of form ≡ o → sourced_to s o form ≡ sourced_to t o form
    by_destination None e = refl
    by_destination (Some d) e =
        ap (λ ws. with_data_words ws form) (words_same (s d) (t d) 1 (data_words form) (λ i low high. same d i (place_in form d i lawful e low (omega (arith, high)))))

pub sourced_none : (s : Sources) (form : Form) → ((d : Destination) (place : ℕ) → s d place ≡ None) → sourced s form ≡ form
unfolding sourced
sourced_none s (ToTerminal address subaddress words) none = ap (λ (ws : List ℕ). ToTerminal address subaddress (record { items = ws })) (words_own (s (to.Terminal address subaddress)) 1 words.items (none (to.Terminal address subaddress)))
sourced_none s (ToAll subaddress words) none = ap (λ (ws : List ℕ). ToAll subaddress (record { items = ws })) (words_own (s (to.All subaddress)) 1 words.items (none (to.All subaddress)))
sourced_none s (ModeTo address subaddress code word) none = ap (λ (o : Option Source). ModeTo address subaddress code (word_at o word)) (none (to.Mode address code) 1)
sourced_none s (ModeAllTo subaddress code word) none = ap (λ (o : Option Source). ModeAllTo subaddress code (word_at o word)) (none (to.ModeToAll code) 1)
sourced_none s (FromTerminal address subaddress count) none = refl
sourced_none s (Between sender a receiver b count) none = refl
sourced_none s (Mode address subaddress code) none = refl
sourced_none s (ModeFrom address subaddress code) none = refl
sourced_none s (BetweenAll sender a b count) none = refl
sourced_none s (ModeAll subaddress code) none = refl

pub sourced_twice : (s t : Sources) (form : Form) → sourced s (sourced t form) ≡ sourced (λ d i. option_or (s d i) (t d i)) form
unfolding sourced
sourced_twice s t (ToTerminal address subaddress words) = ap (λ (ws : List ℕ). ToTerminal address subaddress (record { items = ws })) (words_twice (s (to.Terminal address subaddress)) (t (to.Terminal address subaddress)) 1 words.items)
sourced_twice s t (ToAll subaddress words) = ap (λ (ws : List ℕ). ToAll subaddress (record { items = ws })) (words_twice (s (to.All subaddress)) (t (to.All subaddress)) 1 words.items)
sourced_twice s t (ModeTo address subaddress code word) = ap (λ (w : ℕ). ModeTo address subaddress code w) (word_twice (s (to.Mode address code) 1) (t (to.Mode address code) 1) word)
sourced_twice s t (ModeAllTo subaddress code word) = ap (λ (w : ℕ). ModeAllTo subaddress code w) (word_twice (s (to.ModeToAll code) 1) (t (to.ModeToAll code) 1) word)
sourced_twice s t (FromTerminal address subaddress count) = refl
sourced_twice s t (Between sender a receiver b count) = refl
sourced_twice s t (Mode address subaddress code) = refl
sourced_twice s t (ModeFrom address subaddress code) = refl
sourced_twice s t (BetweenAll sender a b count) = refl
sourced_twice s t (ModeAll subaddress code) = refl

-- what the host asks for one after the other, as sources
pub filled_is : (cs : List Control) (s : Sources) (form : Form) → filled_by cs (sourced s form) ≡ sourced (λ d i. with_controls cs (s d i) d i) form
filled_is [] s form = refl
filled_is (c ∷ cs) s form = ap (filled_by cs) (sourced_twice (set_by c) s form) ∙ filled_is cs (λ d i. with_sources c (s d i) d i) form

pub filled_both : (cs ds : List Control) (form : Form) → filled_by (cs ++ ds) form ≡ filled_by ds (filled_by cs form)
filled_both [] ds form = refl
filled_both (c ∷ cs) ds form = filled_both cs ds (sourced (set_by c) form)

pub controls_both : (n : ℕ) (ps qs : List Placed) → controls_at n (ps ++ qs) ≡ controls_at n ps ++ controls_at n qs
controls_both n ps qs = ap (filter_map control_of) (at_both n ps qs) ∙ filter_map-append control_of (placed_at n ps) (placed_at n qs)

-- ---- words that are put into a message

pub same_words : (form : Form) → with_data_words (data_words form) form ≡ form
same_words (ToTerminal address subaddress words) = refl
same_words (ToAll subaddress words) = refl
same_words (ModeTo address subaddress code word) = refl
same_words (ModeAllTo subaddress code word) = refl
same_words (FromTerminal address subaddress count) = refl
same_words (Between sender a receiver b count) = refl
same_words (Mode address subaddress code) = refl
same_words (ModeFrom address subaddress code) = refl
same_words (BetweenAll sender a b count) = refl
same_words (ModeAll subaddress code) = refl

one_word : (ws : List ℕ) (own : ℕ) → length ws ≡ 1 → first_or own ws ∷ [] ≡ ws
one_word [] own e = absurd (omega (arith, e))
one_word (w ∷ []) own e = refl
one_word (w ∷ v ∷ ws) own e = absurd (omega (arith, e))

no_words : (ws : List ℕ) → length ws ≡ 0 → [] ≡ ws
no_words [] e = refl
no_words (w ∷ ws) e = absurd (omega (arith, e))

-- as many words as there were are those of the message
pub words_with : (ws : List ℕ) (form : Form) → length ws ≡ length (data_words form) → data_words (with_data_words ws form) ≡ ws
words_with ws (ToTerminal address subaddress words) e = refl
words_with ws (ToAll subaddress words) e = refl
words_with ws (ModeTo address subaddress code word) e = one_word ws word e
words_with ws (ModeAllTo subaddress code word) e = one_word ws word e
words_with ws (FromTerminal address subaddress count) e = no_words ws e
words_with ws (Between sender a receiver b count) e = no_words ws e
words_with ws (Mode address subaddress code) e = no_words ws e
words_with ws (ModeFrom address subaddress code) e = no_words ws e
words_with ws (BetweenAll sender a b count) e = no_words ws e
words_with ws (ModeAll subaddress code) e = no_words ws e

first_twice : (ws : List ℕ) (a b : ℕ) → length ws ≡ 1 → first_or a ws ≡ first_or b ws
first_twice [] a b e = absurd (omega (arith, e))
first_twice (w ∷ ws) a b e = refl

pub with_twice : (ws vs : List ℕ) (form : Form) → length ws ≡ length (data_words form) → with_data_words ws (with_data_words vs form) ≡ with_data_words ws form
with_twice ws vs (ToTerminal address subaddress words) e = refl
with_twice ws vs (ToAll subaddress words) e = refl
with_twice ws vs (ModeTo address subaddress code word) e = ap (λ (w : ℕ). ModeTo address subaddress code w) (first_twice ws (first_or word vs) word e)
with_twice ws vs (ModeAllTo subaddress code word) e = ap (λ (w : ℕ). ModeAllTo subaddress code w) (first_twice ws (first_or word vs) word e)
with_twice ws vs (FromTerminal address subaddress count) e = refl
with_twice ws vs (Between sender a receiver b count) e = refl
with_twice ws vs (Mode address subaddress code) e = refl
with_twice ws vs (ModeFrom address subaddress code) e = refl
with_twice ws vs (BetweenAll sender a b count) e = refl
with_twice ws vs (ModeAll subaddress code) e = refl

-- ---- new words

pub put_over_is : (i : ℕ) (ws own : List ℕ) → i ≡ min (length ws) (length own) → take i ws ++ drop i own ≡ put_over ws own
put_over_is zero [] own e = refl
put_over_is zero (w ∷ ws) [] e = refl
put_over_is zero (w ∷ ws) (o ∷ os) e = absurd (omega (arith, e))
put_over_is (suc i) [] own e = absurd (omega (arith, e))
put_over_is (suc i) (w ∷ ws) [] e = absurd (omega (arith, e))
put_over_is (suc i) (w ∷ ws) (o ∷ os) e = ap (λ (v : List ℕ). w ∷ v) (put_over_is i ws os (omega (arith, e)))

-- one word more of them
pub put_one : (i : ℕ) (ws own : List ℕ) (w : ℕ) → i < length ws → i < length own → w ≡ get_or ws i w → slice_set (take i ws ++ drop i own) i w ≡ take (i + 1) ws ++ drop (i + 1) own
put_one i ws own w first second is =
    let left : drop i own ≡ get_or own i 0 ∷ drop (i + 1) own = drop_more own i 0 second in
    let next : take (i + 1) ws ≡ take i ws ++ w ∷ [] = take_more ws i w first ∙ ap (λ (v : ℕ). take i ws ++ v ∷ []) (sym is) in
    ap (λ v. slice_set (take i ws ++ v) i w) left
    ∙ set_at (take i ws) (get_or own i 0) (drop (i + 1) own) w i (length-take-le i ws (omega (arith, first)))
    ∙ sym (append_assoc (take i ws) (w ∷ []) (drop (i + 1) own))
    ∙ ap (λ v. v ++ drop (i + 1) own) (sym next)

-- the step of a message
pub put_step : (i : ℕ) (ws : List ℕ) (w : ℕ) (form sent : Form) → i < length ws → i < length (data_words form) → w ≡ get_or ws i w → sent ≡ with_data_words (take i ws ++ drop i (data_words form)) form
    → with_data_words (slice_set (data_words sent) i w) sent ≡ with_data_words (take (i + 1) ws ++ drop (i + 1) (data_words form)) form
put_step i ws w form sent first second is e =
    let own = data_words form in
    let now = take i ws ++ drop i own in
    let long : length now ≡ length own = length-append (take i ws) (drop i own) ∙ (omega (arith, length-take-le i ws (omega (arith, first)), length-drop i own, second)) in
    let words : slice_set (data_words sent) i w ≡ take (i + 1) ws ++ drop (i + 1) own = ap (λ (f : Form). slice_set (data_words f) i w) e ∙ ap (λ v. slice_set v i w) (words_with now form long) ∙ put_one i ws own w first second is in
    let set_long : length (slice_set now i w) ≡ length own = length-set now i w ∙ long in
    let many : length (take (i + 1) ws ++ drop (i + 1) own) ≡ length own = ap length (sym (put_one i ws own w first second is)) ∙ set_long in
    ap₂ (λ (v : List ℕ) (f : Form). with_data_words v f) words e ∙ with_twice (take (i + 1) ws ++ drop (i + 1) own) now form many

drop_here : (P : Type 0) (xs : List ℕ) (k : ℕ) → (slice_get xs k ≡ None → drop k xs ≡ [] → drop (suc k) xs ≡ [] → P) → ((w : ℕ) → slice_get xs k ≡ Some w → drop k xs ≡ w ∷ drop (suc k) xs → P) → P
drop_here P [] zero none some = none refl refl refl
drop_here P [] (suc k) none some = none refl refl refl
drop_here P (x ∷ xs) zero none some = some x refl refl
drop_here P (x ∷ xs) (suc k) none some = drop_here P xs k none some

over_words : (s : ℕ → Option Source) (words : List ℕ) → ((k : ℕ) → s (suc k) ≡ word_source (slice_get words k)) → (k : ℕ) (own : List ℕ) → sourced_words s (suc k) own ≡ put_over (drop k words) own
over_words s words is k [] = by_list (drop k words)
  where
    by_list : (v : List ℕ) → [] ≡ put_over v []
    by_list [] = refl
    by_list (w ∷ ws) = refl
over_words s words is k (own ∷ rest) =
    let next : suc k + 1 ≡ suc (suc k) = omega arith in
    let behind : sourced_words s (suc k + 1) rest ≡ put_over (drop (suc k) words) rest = ap (λ j. sourced_words s j rest) next ∙ over_words s words is (suc k) rest in
    drop_here _ words k
    (λ none nothing more.
    ap₂ (λ (o : Option Source) (v : List ℕ). word_at o own ∷ v) (is k ∙ ap word_source none) (behind ∙ ap (λ v. put_over v rest) more) ∙ sym (ap (λ v. put_over v (own ∷ rest)) nothing))
    (λ w some here.
    ap₂ (λ (o : Option Source) (v : List ℕ). word_at o own ∷ v) (is k ∙ ap word_source some) behind ∙ sym (ap (λ v. put_over v (own ∷ rest)) here))

-- a message to another destination stays
other_stays : (s : Sources) (form : Form) (o : Option Destination) → destination_of form ≡ o → ((d : Destination) (i : ℕ) → o ≡ Some d → s d i ≡ None) → form ≡ sourced_to s o form
other_stays s form None e none = refl
other_stays s form (Some d) e none = sym (ap (λ ws. with_data_words ws form) (words_own (s d) 1 (data_words form) (λ i. none d i refl)) ∙ same_words form)

module _ (ramp : RampValue) (s : ℕ → Option Source) (is : (i : ℕ) → s i ≡ cond (eqb i ramp.place) (Some (Ramp ramp.start ramp.add)) None) where
  own_behind : (j : ℕ) (ws : List ℕ) → ramp.place < j → sourced_words s j ws ≡ ws
  own_behind j [] above = refl
  own_behind j (w ∷ ws) above =
      ap₂ (λ (v : Option Source) (u : List ℕ). word_at v w ∷ u)
      (is j ∙ ap (λ b. cond b (Some (Ramp ramp.start ramp.add)) None) (ne_eqb j ramp.place (λ e. omega (arith, e, above))))
      (own_behind (j + 1) ws (omega (arith, above)))

  ramp_here : (k o : ℕ) (os : List ℕ) (b : Bool) → eqb (suc k) ramp.place ≡ b → suc k ≤ ramp.place
      → (suc (suc k) ≤ ramp.place → sourced_words s (suc k + 1) os ≡ slice_set os (ramp.place - suc (suc k)) ramp.start)
      → word_at (s (suc k)) o ∷ sourced_words s (suc k + 1) os ≡ slice_set (o ∷ os) (ramp.place - suc k) ramp.start
  ramp_here k o os true e low more =
      let here = eqb-true (suc k) ramp.place e in
      let first : ramp.place - suc k ≡ 0 = omega (arith, here) in
      ap₂ (λ (v : Option Source) (u : List ℕ). word_at v o ∷ u) (is (suc k) ∙ ap (λ b. cond b (Some (Ramp ramp.start ramp.add)) None) e) (own_behind (suc k + 1) os (omega (arith, here)))
      ∙ sym (ap (λ i. slice_set (o ∷ os) i ramp.start) first)
  ramp_here k o os false e low more =
      let other : suc k ≢ ramp.place = eqb-false (suc k) ramp.place e in
      let later : ramp.place - suc k ≡ suc (ramp.place - suc (suc k)) = omega (arith, other, low) in
      ap₂ (λ (v : Option Source) (u : List ℕ). word_at v o ∷ u) (is (suc k) ∙ ap (λ b. cond b (Some (Ramp ramp.start ramp.add)) None) e) (more (omega (arith, other, low)))
      ∙ sym (ap (λ i. slice_set (o ∷ os) i ramp.start) later)

  ramp_words : (k : ℕ) (own : List ℕ) → suc k ≤ ramp.place → sourced_words s (suc k) own ≡ slice_set own (ramp.place - suc k) ramp.start
  ramp_words k [] low = refl
  ramp_words k (o ∷ os) low =
      let next : suc k + 1 ≡ suc (suc k) = omega arith in
      ramp_here k o os (eqb (suc k) ramp.place) refl low (λ more. ap (λ j. sourced_words s j os) next ∙ ramp_words (suc k) os more)

module _ (form : Form) (d : Destination) (at : destination_of form ≡ Some d) where
  pub data_put : (new : NewWordsValue) → is_same d new.destination ≡ true → with_data_words (put_over new.words (data_words form)) form ≡ sourced (set_by (control.Data new)) form
  unfolding sourced
  data_put new same =
      let source : (k : ℕ) → set_by (control.Data new) d (suc k) ≡ word_source (slice_get new.words k) = λ k. source_at_place k in
      ap (λ ws. with_data_words ws form) (sym (over_words (set_by (control.Data new) d) new.words source 0 (data_words form)))
      ∙ ap (λ o. sourced_to (set_by (control.Data new)) o form) (sym at)
    where
      source_at_place : (k : ℕ) → set_by (control.Data new) d (suc k) ≡ word_source (slice_get new.words k)
      source_at_place k =
          let low = le-leb 1 (suc k) (omega arith) in
          let less : suc k - 1 ≡ k = omega arith in
          ap₂ (λ (b c : Bool). cond (b && c) (word_source (slice_get new.words (suc k - 1))) None) same low ∙ ap (λ j. word_source (slice_get new.words j)) less

  pub data_other : (new : NewWordsValue) → is_same d new.destination ≡ false → form ≡ sourced (set_by (control.Data new)) form
  unfolding sourced
  data_other new other =
      other_stays (set_by (control.Data new)) form (Some d) at
      (λ e i is. let here : d ≡ e = cc in ap (λ (b : Bool). cond (b && leb 1 i) (word_source (slice_get new.words (i - 1))) None) (ap (λ (v : Destination). is_same v new.destination) (sym here) ∙ other))
      ∙ ap (λ o. sourced_to (set_by (control.Data new)) o form) (sym at)

  pub ramp_put : (ramp : RampValue) → 1 ≤ ramp.place → is_same d ramp.destination ≡ true → with_data_words (slice_set (data_words form) (ramp.place - 1) ramp.start) form ≡ sourced (set_by (control.Ramp ramp)) form
  unfolding sourced
  ramp_put ramp low same =
      ap (λ ws. with_data_words ws form) (sym (ramp_words ramp (set_by (control.Ramp ramp) d) (λ i. ap (λ (b : Bool). cond (b && eqb i ramp.place) (Some (Ramp ramp.start ramp.add)) None) same) 0 (data_words form) low))
      ∙ ap (λ o. sourced_to (set_by (control.Ramp ramp)) o form) (sym at)

  pub ramp_other : (ramp : RampValue) → is_same d ramp.destination ≡ false → form ≡ sourced (set_by (control.Ramp ramp)) form
  unfolding sourced
  ramp_other ramp other =
      other_stays (set_by (control.Ramp ramp)) form (Some d) at
      (λ e i is. let here : d ≡ e = cc in ap (λ (b : Bool). cond (b && eqb i ramp.place) (Some (Ramp ramp.start ramp.add)) None) (ap (λ (v : Destination). is_same v ramp.destination) (sym here) ∙ other))
      ∙ ap (λ o. sourced_to (set_by (control.Ramp ramp)) o form) (sym at)

pub nowhere_stays : (s : Sources) (form : Form) → destination_of form ≡ None → form ≡ sourced s form
unfolding sourced
nowhere_stays s form none = sym (ap (λ o. sourced_to s o form) none)

pub insert_stays : (x : InsertionValue) (form : Form) → form ≡ sourced (set_by (control.Insert x)) form
insert_stays x form = sym (sourced_none (set_by (control.Insert x)) form (λ d place. refl))
