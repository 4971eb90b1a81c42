-- What is replied to lines is determined, but for want of memory.
use Rattle.std.proofs.Common.{◌≡◌, ℕ, ◌+◌, ◌-◌, ◌<◌, ◌≤◌, ◌⊎◌, [], ◌∷◌, refl, ap, sym, ◌∙◌, inl, inr, Option, Some, None, arith}
use Rattle.std.specs.Prelude.{Bool, true, false, ◌||◌}
use Rattle.std.proofs.lemmas.Bool.{cases_order}
use Rattle.frame_tree.specs.Tree.{Condition}
use Rattle.replay.specs.declared.error.ReplayError.TheVariants as error
use Rattle.replay.specs.Moves.{ReplayState, total_of, IsNextMet, IsNowhere, IsLatestMet, IsNowhereBefore}
use Rattle.bench_places.specs.declared.sought.Sought.{Sought}
use Rattle.bench_places.specs.Places.{latest_of, place_before, place_of}
use Rattle.bench_places.specs.declared.sought.Sought.TheVariants.{Later, Commands}
use Rattle.bench_state.specs.declared.details.Detail.{Detail}
use Rattle.bench_step.specs.Commands.{Asked, forward, back, go, go_time, seek, find, find_back, select, select_back, state, show, show_at, help, quit, no_condition, unknown, asked}
use Rattle.bench_step.specs.Session.{Replies, IsMoveTo, RepliesPlaceFound, HasMessageNumbered, IsAbsent, after_reply, is_memory, AreReplies, any_memory, RepliesAreDetermined}
use Rattle.bench_step.specs.declared.replies.Reply.{Reply}
use Rattle.bench_step.specs.declared.replies.Reply.TheVariants as reply

-- one answer where P holds, and another where Q does
abbrev Is : Type 0 → Reply → Type 0 → Reply → Reply → Type 0
Is P a Q b r = (P × (r ≡ a)) ⊎ (Q × (r ≡ b))

agree : (P Q : Type 0) (a b r q : Reply) → (P → Q → ⊥) → Is P a Q b r → Is P a Q b q → r ≡ q
agree P Q a b r q apart (inl x) (inl y) = x.1 ∙ sym y.1
agree P Q a b r q apart (inl x) (inr y) = absurd (apart x.0 y.0)
agree P Q a b r q apart (inr x) (inl y) = absurd (apart y.0 x.0)
agree P Q a b r q apart (inr x) (inr y) = x.1 ∙ sym y.1

to_forward : (s : ReplayState) (k : ℕ) (r : Reply) → Replies s (forward k) r → is_memory r ≡ false → Is (s.place + k ≤ total_of s) (reply.At (s.place + k)) (total_of s < s.place + k) (reply.Refused error.Past) r
to_forward s k (reply.At n) h m = inl (h.0, ap reply.At h.1)
to_forward s k (reply.Refused (error.Mismatch c n)) h m = absurd h
to_forward s k (reply.Refused error.Past) h m = inr (h, refl)
to_forward s k (reply.Refused error.Start) h m = absurd h
to_forward s k (reply.Refused error.Memory) h m = cc
to_forward s k (reply.Shown detail) h m = absurd h
to_forward s k (reply.Message n) h m = absurd h
to_forward s k reply.Help h m = absurd h
to_forward s k reply.Quit h m = absurd h
to_forward s k reply.Unknown h m = absurd h

to_back : (s : ReplayState) (k : ℕ) (r : Reply) → Replies s (back k) r → is_memory r ≡ false → Is (k ≤ s.place) (reply.At (s.place - k)) (s.place < k) (reply.Refused error.Start) r
to_back s k (reply.At n) h m = inl (h.0, ap reply.At h.1)
to_back s k (reply.Refused (error.Mismatch c n)) h m = absurd h
to_back s k (reply.Refused error.Past) h m = absurd h
to_back s k (reply.Refused error.Start) h m = inr (h, refl)
to_back s k (reply.Refused error.Memory) h m = cc
to_back s k (reply.Shown detail) h m = absurd h
to_back s k (reply.Message n) h m = absurd h
to_back s k reply.Help h m = absurd h
to_back s k reply.Quit h m = absurd h
to_back s k reply.Unknown h m = absurd h

to_go : (s : ReplayState) (n : ℕ) (r : Reply) → Replies s (go n) r → is_memory r ≡ false → Is (n ≤ total_of s) (reply.At n) (total_of s < n) (reply.Refused error.Past) r
to_go s n (reply.At k) h m = inl (h.0, ap reply.At h.1)
to_go s n (reply.Refused (error.Mismatch c k)) h m = absurd h
to_go s n (reply.Refused error.Past) h m = inr (h, refl)
to_go s n (reply.Refused error.Start) h m = absurd h
to_go s n (reply.Refused error.Memory) h m = cc
to_go s n (reply.Shown detail) h m = absurd h
to_go s n (reply.Message k) h m = absurd h
to_go s n reply.Help h m = absurd h
to_go s n reply.Quit h m = absurd h
to_go s n reply.Unknown h m = absurd h

-- at a place that was looked for, or nowhere
abbrev AtOrNowhere : Option ℕ → Reply → Type 0
AtOrNowhere place r = ((n : ℕ) × (place ≡ Some n) × (r ≡ reply.At n)) ⊎ ((place ≡ None) × (r ≡ reply.Refused error.Past))

one_place : (place : Option ℕ) (r q : Reply) → AtOrNowhere place r → AtOrNowhere place q → r ≡ q
one_place place r q (inl x) (inl y) = let a = x.1 in let b = y.1 in let c = x.2 in let d = y.2 in cc
one_place place r q (inl x) (inr y) = let a = x.1 in let b = y.0 in cc
one_place place r q (inr x) (inl y) = let a = x.0 in let b = y.1 in cc
one_place place r q (inr x) (inr y) = x.1 ∙ sym y.1

-- to the message of a number among those that are sought
to_sought : (s : ReplayState) (what : Sought) (n : ℕ) (r : Reply) → Replies s (seek what n) r → is_memory r ≡ false → AtOrNowhere (place_of what 0 n s.found) r
to_sought s what n (reply.At k) h m = inl (k, h, refl)
to_sought s what n (reply.Refused (error.Mismatch c k)) h m = absurd h
to_sought s what n (reply.Refused error.Past) h m = inr (h, refl)
to_sought s what n (reply.Refused error.Start) h m = absurd h
to_sought s what n (reply.Refused error.Memory) h m = cc
to_sought s what n (reply.Shown detail) h m = absurd h
to_sought s what n (reply.Message k) h m = absurd h
to_sought s what n reply.Help h m = absurd h
to_sought s what n reply.Quit h m = absurd h
to_sought s what n reply.Unknown h m = absurd h

-- where a selector leads
to_found : (place : Option ℕ) (r : Reply) → RepliesPlaceFound place r → is_memory r ≡ false → AtOrNowhere place r
to_found place (reply.At k) h m = inl (k, h, refl)
to_found place (reply.Refused (error.Mismatch c k)) h m = elim h [ inl x ↦ absurd x | inr x ↦ cc ]
to_found place (reply.Refused error.Past) h m = elim h [ inl none ↦ inr (none, refl) | inr x ↦ cc ]
to_found place (reply.Refused error.Start) h m = elim h [ inl x ↦ absurd x | inr x ↦ cc ]
to_found place (reply.Refused error.Memory) h m = cc
to_found place (reply.Shown detail) h m = absurd h
to_found place (reply.Message n) h m = absurd h
to_found place reply.Help h m = absurd h
to_found place reply.Quit h m = absurd h
to_found place reply.Unknown h m = absurd h

-- to a place of the recording
to_place : (place : ℕ) (r : Reply) → IsMoveTo place r → is_memory r ≡ false → r ≡ reply.At place
to_place place (reply.At k) h m = ap reply.At h
to_place place (reply.Refused (error.Mismatch c k)) h m = cc
to_place place (reply.Refused error.Past) h m = cc
to_place place (reply.Refused error.Start) h m = cc
to_place place (reply.Refused error.Memory) h m = cc
to_place place (reply.Shown detail) h m = absurd h
to_place place (reply.Message n) h m = absurd h
to_place place reply.Help h m = absurd h
to_place place reply.Quit h m = absurd h
to_place place reply.Unknown h m = absurd h

-- the next message that meets a condition is one
next_is_one : (s : ReplayState) (test : Condition) (n k : ℕ) → IsNextMet s test n → IsNextMet s test k → n ≡ k
next_is_one s test n k x y =
    elim (cases_order n k) [
      | inl same ↦ same
      | inr other ↦ elim other [ inl below ↦ absurd (y.first n x.past below x.met) | inr above ↦ absurd (x.first k y.past above y.met) ]
    ]

to_find : (s : ReplayState) (test : Condition) (r : Reply) → Replies s (find test) r → is_memory r ≡ false → ((n : ℕ) × IsNextMet s test n × (r ≡ reply.At n)) ⊎ (IsNowhere s test × (r ≡ reply.Refused error.Past))
to_find s test (reply.At k) h m = inl (k, h, refl)
to_find s test (reply.Refused (error.Mismatch c k)) h m = elim h [ inl x ↦ absurd x | inr x ↦ cc ]
to_find s test (reply.Refused error.Past) h m = elim h [ inl nowhere ↦ inr (nowhere, refl) | inr x ↦ cc ]
to_find s test (reply.Refused error.Start) h m = elim h [ inl x ↦ absurd x | inr x ↦ cc ]
to_find s test (reply.Refused error.Memory) h m = cc
to_find s test (reply.Shown detail) h m = absurd h
to_find s test (reply.Message n) h m = absurd h
to_find s test reply.Help h m = absurd h
to_find s test reply.Quit h m = absurd h
to_find s test reply.Unknown h m = absurd h

one_found : (s : ReplayState) (test : Condition) (r q : Reply) → ((n : ℕ) × IsNextMet s test n × (r ≡ reply.At n)) ⊎ (IsNowhere s test × (r ≡ reply.Refused error.Past))
    → ((n : ℕ) × IsNextMet s test n × (q ≡ reply.At n)) ⊎ (IsNowhere s test × (q ≡ reply.Refused error.Past)) → r ≡ q
one_found s test r q (inl x) (inl y) = x.2 ∙ ap reply.At (next_is_one s test x.0 y.0 x.1 y.1) ∙ sym y.2
one_found s test r q (inl x) (inr y) = absurd (y.0 x.0 x.1.past x.1.met)
one_found s test r q (inr x) (inl y) = absurd (x.0 y.0 y.1.past y.1.met)
one_found s test r q (inr x) (inr y) = x.1 ∙ sym y.1

-- the latest message before the place that meets a condition is one
latest_is_one : (s : ReplayState) (test : Condition) (n k : ℕ) → IsLatestMet s test n → IsLatestMet s test k → n ≡ k
latest_is_one s test n k x y =
    elim (cases_order n k) [
      | inl same ↦ same
      | inr other ↦ elim other [ inl below ↦ absurd (x.latest k below y.before y.met) | inr above ↦ absurd (y.latest n above x.before x.met) ]
    ]

to_find_back : (s : ReplayState) (test : Condition) (r : Reply) → Replies s (find_back test) r → is_memory r ≡ false → ((n : ℕ) × IsLatestMet s test n × (r ≡ reply.At n)) ⊎ (IsNowhereBefore s test × (r ≡ reply.Refused error.Past))
to_find_back s test (reply.At k) h m = inl (k, h, refl)
to_find_back s test (reply.Refused (error.Mismatch c k)) h m = elim h [ inl x ↦ absurd x | inr x ↦ cc ]
to_find_back s test (reply.Refused error.Past) h m = elim h [ inl nowhere ↦ inr (nowhere, refl) | inr x ↦ cc ]
to_find_back s test (reply.Refused error.Start) h m = elim h [ inl x ↦ absurd x | inr x ↦ cc ]
to_find_back s test (reply.Refused error.Memory) h m = cc
to_find_back s test (reply.Shown detail) h m = absurd h
to_find_back s test (reply.Message n) h m = absurd h
to_find_back s test reply.Help h m = absurd h
to_find_back s test reply.Quit h m = absurd h
to_find_back s test reply.Unknown h m = absurd h

one_found_back : (s : ReplayState) (test : Condition) (r q : Reply) → ((n : ℕ) × IsLatestMet s test n × (r ≡ reply.At n)) ⊎ (IsNowhereBefore s test × (r ≡ reply.Refused error.Past))
    → ((n : ℕ) × IsLatestMet s test n × (q ≡ reply.At n)) ⊎ (IsNowhereBefore s test × (q ≡ reply.Refused error.Past)) → r ≡ q
one_found_back s test r q (inl x) (inl y) = x.2 ∙ ap reply.At (latest_is_one s test x.0 y.0 x.1 y.1) ∙ sym y.2
one_found_back s test r q (inl x) (inr y) = absurd (y.0 x.0 x.1.before x.1.met)
one_found_back s test r q (inr x) (inl y) = absurd (x.0 y.0 y.1.before y.1.met)
one_found_back s test r q (inr x) (inr y) = x.1 ∙ sym y.1

to_state : (s : ReplayState) (d : Detail) (r : Reply) → Replies s (state d) r → r ≡ reply.Shown d
to_state s d (reply.At n) h = absurd h
to_state s d (reply.Refused e) h = absurd h
to_state s d (reply.Shown shown) h = ap reply.Shown h
to_state s d (reply.Message n) h = absurd h
to_state s d reply.Help h = absurd h
to_state s d reply.Quit h = absurd h
to_state s d reply.Unknown h = absurd h

to_show : (s : ReplayState) (r : Reply) → Replies s show r → is_memory r ≡ false → Is (HasMessageNumbered s s.place) (reply.Message s.place) (IsAbsent s s.place) (reply.Refused error.Past) r
to_show s (reply.At n) h m = absurd h
to_show s (reply.Refused e) h m = inr (h.0, ap reply.Refused h.1)
to_show s (reply.Message n) h m = inl (h.0, ap reply.Message h.1)
to_show s (reply.Shown detail) h m = absurd h
to_show s reply.Help h m = absurd h
to_show s reply.Quit h m = absurd h
to_show s reply.Unknown h m = absurd h

to_show_at : (s : ReplayState) (n : ℕ) (r : Reply) → Replies s (show_at n) r → is_memory r ≡ false → Is (HasMessageNumbered s n) (reply.Message n) (IsAbsent s n) (reply.Refused error.Past) r
to_show_at s n (reply.At k) h m = absurd h
to_show_at s n (reply.Refused e) h m = inr (h.0, ap reply.Refused h.1)
to_show_at s n (reply.Message k) h m = inl (h.0, ap reply.Message h.1)
to_show_at s n (reply.Shown detail) h m = absurd h
to_show_at s n reply.Help h m = absurd h
to_show_at s n reply.Quit h m = absurd h
to_show_at s n reply.Unknown h m = absurd h

to_help : (s : ReplayState) (r : Reply) → Replies s help r → r ≡ reply.Help
to_help s (reply.At n) h = absurd h
to_help s (reply.Refused e) h = absurd h
to_help s (reply.Shown detail) h = absurd h
to_help s (reply.Message n) h = absurd h
to_help s reply.Quit h = absurd h
to_help s reply.Unknown h = absurd h
to_help s reply.Help h = refl

to_quit : (s : ReplayState) (r : Reply) → Replies s quit r → r ≡ reply.Quit
to_quit s (reply.At n) h = absurd h
to_quit s (reply.Refused e) h = absurd h
to_quit s (reply.Shown detail) h = absurd h
to_quit s (reply.Message n) h = absurd h
to_quit s reply.Help h = absurd h
to_quit s reply.Unknown h = absurd h
to_quit s reply.Quit h = refl

to_no_condition : (s : ReplayState) (r : Reply) → Replies s no_condition r → is_memory r ≡ false → r ≡ reply.Unknown
to_no_condition s (reply.At n) h m = absurd h
to_no_condition s (reply.Refused (error.Mismatch c k)) h m = cc
to_no_condition s (reply.Refused error.Past) h m = cc
to_no_condition s (reply.Refused error.Start) h m = cc
to_no_condition s (reply.Refused error.Memory) h m = cc
to_no_condition s (reply.Shown detail) h m = absurd h
to_no_condition s (reply.Message n) h m = absurd h
to_no_condition s reply.Help h m = absurd h
to_no_condition s reply.Quit h m = absurd h
to_no_condition s reply.Unknown h m = refl

to_unknown : (s : ReplayState) (r : Reply) → Replies s unknown r → r ≡ reply.Unknown
to_unknown s (reply.At n) h = absurd h
to_unknown s (reply.Refused e) h = absurd h
to_unknown s (reply.Shown detail) h = absurd h
to_unknown s (reply.Message n) h = absurd h
to_unknown s reply.Help h = absurd h
to_unknown s reply.Quit h = absurd h
to_unknown s reply.Unknown h = refl

one_reply : (s : ReplayState) (a : Asked) (r q : Reply) → Replies s a r → Replies s a q → is_memory r ≡ false → is_memory q ≡ false → r ≡ q
one_reply s (forward p) r q h k m n = agree (s.place + p ≤ total_of s) (total_of s < s.place + p) _ _ r q (λ x y. omega arith) (to_forward s p r h m) (to_forward s p q k n)
one_reply s (back p) r q h k m n = agree (p ≤ s.place) (s.place < p) _ _ r q (λ x y. omega arith) (to_back s p r h m) (to_back s p q k n)
one_reply s (go p) r q h k m n = agree (p ≤ total_of s) (total_of s < p) _ _ r q (λ x y. omega arith) (to_go s p r h m) (to_go s p q k n)
one_reply s (go_time ticks) r q h k m n =
    let place = place_before (Later ticks) s.found in to_place place r h m ∙ sym (to_place place q k n)
one_reply s (seek what p) r q h k m n = one_place (place_of what 0 p s.found) r q (to_sought s what p r h m) (to_sought s what p q k n)
one_reply s (find test) r q h k m n = one_found s test r q (to_find s test r h m) (to_find s test q k n)
one_reply s (find_back test) r q h k m n = one_found_back s test r q (to_find_back s test r h m) (to_find_back s test q k n)
one_reply s (select selector) r q h k m n =
    let place = place_of (Commands selector) s.place 1 s.found in one_place place r q (to_found place r h m) (to_found place q k n)
one_reply s (select_back selector) r q h k m n =
    let place = latest_of (Commands selector) s.place s.found in one_place place r q (to_found place r h m) (to_found place q k n)
one_reply s (state d) r q h k m n = to_state s d r h ∙ sym (to_state s d q k)
one_reply s show r q h k m n = agree (HasMessageNumbered s s.place) (IsAbsent s s.place) _ _ r q (λ x y. x y) (to_show s r h m) (to_show s q k n)
one_reply s (show_at p) r q h k m n = agree (HasMessageNumbered s p) (IsAbsent s p) _ _ r q (λ x y. x y) (to_show_at s p r h m) (to_show_at s p q k n)
one_reply s help r q h k m n = to_help s r h ∙ sym (to_help s q k)
one_reply s quit r q h k m n = to_quit s r h ∙ sym (to_quit s q k)
one_reply s no_condition r q h k m n = to_no_condition s r h m ∙ sym (to_no_condition s q k n)
one_reply s unknown r q h k m n = to_unknown s r h ∙ sym (to_unknown s q k)

neither : (a b : Bool) → (a || b) ≡ false → (a ≡ false) × (b ≡ false)
neither true b h = cc
neither false b h = (refl, h)

pub determined : RepliesAreDetermined
determined manner s [] [] [] h k m n = refl
determined manner s [] [] (q ∷ qs) h k m n = absurd k
determined manner s [] (r ∷ rs) qs h k m n = absurd h
determined manner s (l ∷ ls) [] qs h k m n = absurd h
determined manner s (l ∷ ls) (r ∷ rs) [] h k m n = absurd k
determined manner s (l ∷ ls) (r ∷ rs) (q ∷ qs) h k m n =
    let first = neither (is_memory r) (any_memory rs) m in
    let second = neither (is_memory q) (any_memory qs) n in
    let same : r ≡ q = one_reply s (asked manner l) r q h.0 k.0 first.0 second.0 in
    let later : AreReplies manner (after_reply r s) ls qs = rw same k.1 in
    let rest : rs ≡ qs = determined manner (after_reply r s) ls rs qs h.1 later first.1 second.1 in
    cc
