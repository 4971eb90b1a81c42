use Rattle.std.proofs.Common.{◌≡◌, ◌≢◌, ◌≤◌, ◌<◌, ◌++◌, ⊎_elim, ℕ, List, [], length, ap, sym, ◌∙◌, arith, subst, append-nil, get_or, Vec, Global}
use Rattle.std.specs.Prelude.{All}
use Rattle.std.proofs.lemmas.Bool.{cases_lt}
use Rattle.std.proofs.lemmas.List.{get_or_read}
use Rattle.mil_trunk.specs.Ends.{sent}
use Rattle.mil_trunk.specs.Views.{with_tag}
use Rattle.test_values.specs.declared.items.Item.{Item}
use Rattle.mil_trunk.proofs.Tagging.{with_tag-append, with_tag-all, with_tag-all_other}
use Rattle.mil_tests.proofs.tests.trunks.threads.+run_from.Goals as goal

-- what was sent is the list of one tag
of_tag : (from place : ℕ) (lists : List (Vec Item Global)) (items : Vec Item Global) (sent : List Item) → items ≡ get_or lists place items → sent ≡ items.items → All (λ item. item.tag ≡ from) (get_or lists place items).items → All (λ item. item.tag ≡ from) sent
of_tag from place lists items sent is same of_from =
    let P : Vec Item Global → Type 0 = λ v. All (λ item. item.tag ≡ from) v.items in
    let Q : List Item → Type 0 = λ l. All (λ item. item.tag ≡ from) l in
    subst Q (sym same) (subst P (sym is) of_from)

module _ (from : ℕ) (all first second : List Item) (of_from : All (λ item. item.tag ≡ from) second) (is : all ≡ first ++ second) where
  -- a tag that only the first ticket sent
  with_tag-first : (k : ℕ) → k ≢ from → with_tag (λ (x : Item). x.tag) k all ≡ with_tag (λ (x : Item). x.tag) k first
  with_tag-first k ne = ap (with_tag (λ (x : Item). x.tag) k) is ∙ with_tag-append (λ (x : Item). x.tag) k first second
      ∙ ap (λ l. with_tag (λ (x : Item). x.tag) k first ++ l) (with_tag-all_other (λ (x : Item). x.tag) from k second (λ e. ne (sym e)) of_from) ∙ append-nil (with_tag (λ (x : Item). x.tag) k first)

  -- the tag that only the second one sent
  with_tag-second : with_tag (λ (x : Item). x.tag) from first ≡ [] → with_tag (λ (x : Item). x.tag) from all ≡ second
  with_tag-second none = ap (with_tag (λ (x : Item). x.tag) from) is ∙ with_tag-append (λ (x : Item). x.tag) from first second
      ∙ ap (λ l. l ++ with_tag (λ (x : Item). x.tag) from second) none ∙ with_tag-all (λ (x : Item). x.tag) from second of_from

pub returns-clause-before : goal.returns-clause-before
returns-clause-before g t c = λ _ k below.
    let all : sent c.join-theirs.result.0 ≡ c.index-lists-from.result.items = c.join-theirs.ensures.2 c.if-not-sent_all.false ∙ c.in-Some.ensures.2 ∙ c.as_slice-items.ensures.value in
    let within : c.args.from < length c.args.lists.now = let few = c.requires.few.1 in let other = c.if-from-lists.false in omega (arith, few, other) in
    let of_from = of_tag c.args.from c.args.from c.args.lists.now c.index-lists-from.result _ c.index-lists-from.is all (c.requires.lists c.args.from c.index-lists-from.result within) in
    with_tag-first c.args.from _ _ _ of_from c.take_in.ensures.sent k (λ e. absurd (omega (arith, below, e))) ∙ c.run_from-ended.ensures.before c.if-not-ended.false k (omega (arith, below))

pub returns-clause-sent : goal.returns-clause-sent
returns-clause-sent g t c = λ _ k d from_on below.
    let all : sent c.join-theirs.result.0 ≡ c.index-lists-from.result.items = c.join-theirs.ensures.2 c.if-not-sent_all.false ∙ c.in-Some.ensures.2 ∙ c.as_slice-items.ensures.value in
    let within : c.args.from < length c.args.lists.now = omega (arith, from_on, below) in
    let of_from = of_tag c.args.from c.args.from c.args.lists.now c.index-lists-from.result _ c.index-lists-from.is all (c.requires.lists c.args.from c.index-lists-from.result within) in
    ⊎_elim
    (λ (later : c.args.from < k). with_tag-first c.args.from _ _ _ of_from c.take_in.ensures.sent k (λ e. absurd (omega (arith, later, e))) ∙ c.run_from-ended.ensures.sent c.if-not-ended.false k d (omega (arith, later)) below)
    (λ (here : k ≤ c.args.from). let is : k ≡ c.args.from = omega (arith, here, from_on) in
    ap (λ n. with_tag (λ (x : Item). x.tag) n (sent c.take_in.new.ticket)) is ∙ with_tag-second c.args.from _ _ _ of_from c.take_in.ensures.sent (c.run_from-ended.ensures.before c.if-not-ended.false c.args.from (omega arith))
    ∙ all ∙ ap (λ (v : Vec Item Global). v.items) (get_or_read c.args.lists.now c.args.from c.index-lists-from.result within c.index-lists-from.is d) ∙ ap (λ n. (get_or c.args.lists.now n d).items) (sym is))
    (cases_lt c.args.from k)
