-- What is read as a condition is what the rules derive.
use Rattle.std.proofs.Common.{◌≡◌, ℕ, zero, suc, ◌≤◌, List, [], ◌∷◌, ◌++◌, Option, Some, None, Result, Ok, Err, refl, sym, ap, ◌∙◌, subst, arith}
use Rattle.std.specs.Prelude.{codes}
use Rattle.std.proofs.lemmas.List.{append-nil}
use Rattle.mil_status.specs.Status.{bit_named}
use Rattle.mil_status.specs.declared.bit.StatusBit.{StatusBit}
use Rattle.mil_message.specs.declared.outcome_test.OutcomeTest.TheVariants.{Bit}
use Rattle.frame_tree.specs.Tree.{Condition, asked, negated, both, either}
use Rattle.frame_tree.specs.Bounds.{operators}
use Rattle.frame_text.specs.Tokens.{tokens}
use Rattle.frame_text.specs.Reading.{Tokens, at_first, cause_alone, ◌>>=◌, same_bytes, past, to_the_end}
use Rattle.frame_text.specs.Conditions.{Reader, condition_at, condition_from, condition_of, condition_word, below_at, name_at, bit_or_misplaced, pair_at, whole_condition, condition_of_text}
use Rattle.frame_text.specs.declared.faults.Cause.{Cause}
use Rattle.frame_text.specs.declared.faults.Cause.TheVariants as cause
use Rattle.frame_text.specs.declared.keywords.ConditionWord.{ConditionWord}
use Rattle.frame_text.specs.declared.keywords.ConditionWord.TheVariants as key
use Rattle.frame_text.proofs.Soundness.{bind_ok, ok_is, condition_ok}
use Rattle.frame_grammar.specs.Conditions.{SpellCondition, HasCondition}
use Rattle.frame_grammar.specs.Conditions.{SpellCondition as rule}
use Rattle.frame_grammar.specs.Laws.{ConditionsAreDerived}
use Rattle.frame_grammar.proofs.Pieces.{same_is, of_choice, answered_is, whole_ok, first_ok, past_ok, end_ok, three, begun}

-- the word that begins a condition
abbrev Stands : ConditionWord → List ℕ → Type 0
Stands key.Fail w = w ≡ codes "fail"
Stands key.Silent w = w ≡ codes "silent"
Stands key.Bit w = w ≡ codes "bit"
Stands key.Not w = w ≡ codes "not"
Stands key.All w = w ≡ codes "all"
Stands key.Any w = w ≡ codes "any"
Stands key.NoCondition w = Unit {0}

stands : (w : List ℕ) → Stands (condition_word w) w
unfolding condition_word
stands w =
    let P : ConditionWord → Type 0 = λ k. Stands k w in
    of_choice P (same_bytes w (codes "fail")) _ _ (same_is w (codes "fail"))
    (of_choice P (same_bytes w (codes "silent")) _ _ (same_is w (codes "silent"))
    (of_choice P (same_bytes w (codes "bit")) _ _ (same_is w (codes "bit"))
    (of_choice P (same_bytes w (codes "not")) _ _ (same_is w (codes "not"))
    (of_choice P (same_bytes w (codes "all")) _ _ (same_is w (codes "all"))
    (of_choice P (same_bytes w (codes "any")) _ key.NoCondition (same_is w (codes "any")) tt)))))

-- words that spell the condition stand in front of the rest
abbrev pub Spelled : Tokens → Condition × Tokens → Type 0
Spelled ts x = (ws : Tokens) × (ts ≡ ws ++ x.1) × SpellCondition ws x.0

abbrev AllSpelled : Reader → Type 0
AllSpelled reader = (ts : Tokens) (x : Condition × Tokens) → reader ts ≡ Ok x → Spelled ts x

name_spelled : (ts : Tokens) (x : StatusBit × Tokens) → name_at ts ≡ Ok x → (w : List ℕ) × (ts ≡ w ∷ x.1) × (bit_named w ≡ Some x.0)
unfolding name_at
name_spelled [] x e = absurd (cc)
name_spelled (w ∷ ts) x e = by (bit_named w) refl e
  where
    by : (o : Option StatusBit) → bit_named w ≡ o → bit_or_misplaced w o ts ≡ Ok x → (v : List ℕ) × (w ∷ ts ≡ v ∷ x.1) × (bit_named v ≡ Some x.0)
    by (Some b) h i = let g : (b, ts) ≡ x = ok_is _ x i in (w, ap (λ z. w ∷ z.1) g, h ∙ ap (λ z. Some z.0) g)
    by None h i = absurd (cc)

abbrev PairSpelled : Tokens → (Condition × Condition) × Tokens → Type 0
PairSpelled ts x = (one : Tokens) × (other : Tokens) × (ts ≡ codes "(" ∷ (one ++ (other ++ codes ")" ∷ x.1))) × SpellCondition one x.0.0 × SpellCondition other x.0.1

tails : (ts us vs rest one other : Tokens) → ts ≡ one ++ us → us ≡ other ++ vs → vs ≡ codes ")" ∷ rest → ts ≡ one ++ (other ++ codes ")" ∷ rest)
tails ts us vs rest one other e h i = e ∙ ap (λ z. one ++ z) (h ∙ ap (λ z. other ++ z) i)

pair_spelled : (reader : Reader) → AllSpelled reader → (ts : Tokens) (x : (Condition × Condition) × Tokens) → pair_at reader ts ≡ Ok x → PairSpelled ts x
unfolding pair_at
pair_spelled reader all ts x e =
    let o = bind_ok (past (codes "(") ts) _ x e in
    let a = bind_ok (reader o.0) _ x o.2 in
    let b = bind_ok (reader a.0.1) _ x a.2 in
    let r = bind_ok (past (codes ")") b.0.1) _ x b.2 in
    let p = all o.0 a.0 a.1 in
    let q = all a.0.1 b.0 b.1 in
    let close : b.0.1 ≡ codes ")" ∷ r.0 = past_ok (codes ")") b.0.1 r.0 r.1 in
    let is = past_ok (codes "(") ts o.0 o.1 ∙ ap (λ z. codes "(" ∷ z) (tails o.0 a.0.1 b.0.1 r.0 p.0 q.0 p.1 q.1 close) in
    subst (PairSpelled ts) (ok_is _ x r.2) (p.0, q.0, is, p.2, q.2)

-- the words of two conditions in their brackets, in front of the rest
in_front : (first w : List ℕ) (ts one other rest : Tokens) → w ≡ first → ts ≡ codes "(" ∷ (one ++ (other ++ codes ")" ∷ rest)) → w ∷ ts ≡ first ∷ codes "(" ∷ one ++ other ++ codes ")" ∷ [] ++ rest
in_front first w ts one other rest e h = begun e (h ∙ ap (λ z. codes "(" ∷ z) (sym (three one other (codes ")" ∷ []) rest)))

-- what a condition within another is read by, or none
abbrev BelowSpelled : Result Reader Cause → Type 0
BelowSpelled below = (reader : Reader) → below ≡ Ok reader → AllSpelled reader

word_spelled : (below : Result Reader Cause) → BelowSpelled below → (k : ConditionWord) (w : List ℕ) (ts : Tokens) (x : Condition × Tokens) → Stands k w → condition_of below k w ts ≡ Ok x → Spelled (w ∷ ts) x
unfolding condition_of
word_spelled below all key.Fail w ts x s e = subst (Spelled (w ∷ ts)) (ok_is _ x e) (codes "fail" ∷ [], ap (λ z. z ∷ ts) s, rule.fail)
word_spelled below all key.Silent w ts x s e = subst (Spelled (w ∷ ts)) (ok_is _ x e) (codes "silent" ∷ [], ap (λ z. z ∷ ts) s, rule.silent)
word_spelled below all key.Bit w ts x s e =
    let n = bind_ok (name_at ts) _ x e in
    let v = name_spelled ts n.0 n.1 in
    subst (Spelled (w ∷ ts)) (ok_is _ x n.2) (codes "bit" ∷ v.0 ∷ [], begun s v.1, rule.bit v.2)
word_spelled below all key.Not w ts x s e =
    let r = bind_ok (at_first (w ∷ ts) below) _ x e in
    let known = first_ok (w ∷ ts) below r.0 r.1 in
    let a = bind_ok (r.0 ts) _ x r.2 in
    let p = all r.0 known ts a.0 a.1 in
    subst (Spelled (w ∷ ts)) (ok_is _ x a.2) (codes "not" ∷ p.0, begun s p.1, rule.not p.2)
word_spelled below all key.All w ts x s e =
    let r = bind_ok (at_first (w ∷ ts) below) _ x e in
    let known = first_ok (w ∷ ts) below r.0 r.1 in
    let a = bind_ok (pair_at r.0 ts) _ x r.2 in
    let p = pair_spelled r.0 (all r.0 known) ts a.0 a.1 in
    subst (Spelled (w ∷ ts)) (ok_is _ x a.2) (codes "all" ∷ codes "(" ∷ p.0 ++ p.1 ++ codes ")" ∷ [], in_front (codes "all") w ts p.0 p.1 a.0.1 s p.2, rule.all p.3 p.4)
word_spelled below all key.Any w ts x s e =
    let r = bind_ok (at_first (w ∷ ts) below) _ x e in
    let known = first_ok (w ∷ ts) below r.0 r.1 in
    let a = bind_ok (pair_at r.0 ts) _ x r.2 in
    let p = pair_spelled r.0 (all r.0 known) ts a.0 a.1 in
    subst (Spelled (w ∷ ts)) (ok_is _ x a.2) (codes "any" ∷ codes "(" ∷ p.0 ++ p.1 ++ codes ")" ∷ [], in_front (codes "any") w ts p.0 p.1 a.0.1 s p.2, rule.any p.3 p.4)
word_spelled below all key.NoCondition w ts x s e = absurd (cc)

pub condition_spelled : (d : ℕ) → AllSpelled (condition_at d)
unfolding condition_from below_at
condition_spelled d [] x e = absurd (cc)
condition_spelled zero (w ∷ ts) x e = word_spelled (Err cause.Depth) (λ reader i. absurd (cc)) (condition_word w) w ts x (stands w) e
condition_spelled (suc d) (w ∷ ts) x e =
    word_spelled (Ok (condition_at d)) (λ reader i. subst AllSpelled (answered_is _ reader i) (condition_spelled d)) (condition_word w) w ts x (stands w) e

pair_read : (reader : Reader) (a b : Condition) (one other rest : Tokens) → reader (one ++ (other ++ codes ")" ∷ rest)) ≡ Ok (a, other ++ codes ")" ∷ rest) → reader (other ++ codes ")" ∷ rest) ≡ Ok (b, codes ")" ∷ rest)
    → pair_at reader (codes "(" ∷ one ++ other ++ codes ")" ∷ [] ++ rest) ≡ Ok ((a, b), rest)
unfolding pair_at past
pair_read reader a b one other rest e h =
    ap (λ z. pair_at reader (codes "(" ∷ z)) (three one other (codes ")" ∷ []) rest)
    ∙ ap (λ r. r >>= (λ p. reader p.1 >>= (λ q. past (codes ")") q.1 >>= (λ left. Ok ((p.0, q.0), left))))) e
    ∙ ap (λ r. r >>= (λ q. past (codes ")") q.1 >>= (λ left. Ok ((a, q.0), left)))) h

-- words that spell a condition are read as it
pub condition_read : {ws : Tokens} {c : Condition} → SpellCondition ws c → (d : ℕ) → operators c ≤ d → (rest : Tokens) → condition_at d (ws ++ rest) ≡ Ok (c, rest)
unfolding condition_from condition_of condition_word below_at name_at
condition_read (rule.fail) d l rest = refl
condition_read (rule.silent) d l rest = refl
condition_read (rule.bit {name = name} {b = b} is) d l rest = ap (λ o. bit_or_misplaced name o rest >>= (λ x. Ok (asked (Bit x.0), x.1))) is
condition_read (rule.not p) zero l rest = absurd (omega (arith, l))
condition_read (rule.not p) (suc d) l rest = ap (λ r. r >>= (λ a. Ok (negated a.0, a.1))) (condition_read p d (omega (arith, l)) rest)
condition_read (rule.all p q) zero l rest = absurd (omega (arith, l))
condition_read (rule.all {one = one} {other = other} {a = a} {b = b} p q) (suc d) l rest =
    ap (λ r. r >>= (λ x. Ok (both x.0.0 x.0.1, x.1)))
    (pair_read (condition_at d) a b one other rest (condition_read p d (omega (arith, l)) (other ++ codes ")" ∷ rest)) (condition_read q d (omega (arith, l)) (codes ")" ∷ rest)))
condition_read (rule.any p q) zero l rest = absurd (omega (arith, l))
condition_read (rule.any {one = one} {other = other} {a = a} {b = b} p q) (suc d) l rest =
    ap (λ r. r >>= (λ x. Ok (either x.0.0 x.0.1, x.1)))
    (pair_read (condition_at d) a b one other rest (condition_read p d (omega (arith, l)) (other ++ codes ")" ∷ rest)) (condition_read q d (omega (arith, l)) (codes ")" ∷ rest)))

pub conditions_derived : ConditionsAreDerived
unfolding to_the_end
conditions_derived text c = (forth, back)
  where
    forth : condition_of_text text ≡ Ok c → HasCondition text c
    forth e =
        let x = bind_ok (condition_at 16 (tokens text)) _ c (whole_ok (whole_condition text) c e) in
        let z = end_ok x.0 c x.2 in
        let p = condition_spelled 16 (tokens text) x.0 x.1 in
        let all : p.0 ≡ tokens text = sym (p.1 ∙ ap (λ u. p.0 ++ u) z.1 ∙ append-nil p.0) in
        let spelled : SpellCondition (tokens text) x.0.0 = subst (λ u. SpellCondition u x.0.0) all p.2 in
        let few = condition_ok 16 (tokens text) x.0 x.1 in
        subst (HasCondition text) z.0 (spelled, few)

    back : HasCondition text c → condition_of_text text ≡ Ok c
    back h =
        ap (λ ts. cause_alone (condition_at 16 ts >>= (λ read. to_the_end read))) (sym (append-nil (tokens text)))
        ∙ ap (λ r. cause_alone (r >>= (λ read. to_the_end read))) (condition_read h.0 16 h.1 [])
