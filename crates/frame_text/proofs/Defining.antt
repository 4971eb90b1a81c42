-- Reading definitions one by one.
use Rattle.std.proofs.Common.{rules, ◌≡◌, ◌≢◌, ℕ, ◌-◌, ◌≤◌, ◌<◌, min, Bool, true, false, cond, List, [], ◌∷◌, Result, Ok, sym, ap, ◌∙◌, arith}
use Rattle.std.specs.Prelude.{codes, nat_le}
use Rattle.std.proofs.lemmas.Bool.Decides.{nat_tests}
use Rattle.frame_tree.specs.Tree.{Tree, define}
use Rattle.frame_tree.specs.Bounds.{depth_in, worst_messages}
use Rattle.frame_tree.specs.Names.{Scope}
use Rattle.frame_tree.specs.Scopes.{scope_of}
use Rattle.frame_tree.specs.declared.names.Scope.{Empty, the_lemmas}
use Rattle.frame_text.specs.Reading.{◌>>=◌, Failure, fails, Tokens, same_bytes, FailsReadingTokens, Breaks, IsOfText}
use Rattle.frame_text.specs.Frames.{block_at, fresh_name_at, script_at, bounded}
use Rattle.frame_text.specs.declared.faults.Cause.TheVariants as cause
use Rattle.frame_text.specs.declared.faults.TextFault.{TextFault}
use Rattle.frame_text.specs.declared.faults.TextFault.TheVariants as fault
use Rattle.frame_text.proofs.Scripts.{defines}

pub no_names : scope_of Empty ≡ []
no_names = search (rules, the_lemmas)

module _ (k : ℕ) (ds : Scope ℕ) (w : List ℕ) (text ts : Tokens) (is : text ≡ w ∷ ts) (h : same_bytes w (codes "define") ≡ true) (some : k ≢ 0) where
  abbrev whole : Result ((List ℕ × Tree) × Tokens) Failure → Result Tree Failure
  whole r = r >>= (λ x. script_at (k - 1) ((x.0.0, depth_in ds x.0.1) ∷ ds) x.1 >>= (λ t. Ok (define x.0.0 x.0.1 t)))

  pub name_fails : (R : Type 0) (f : TextFault) → FailsReadingTokens f (fresh_name_at ds ts) → IsOfText f → Breaks R f (script_at k ds text)
  name_fails R (fault.Text c left) e of_text = defines k ds w text ts is h some ∙ ap (λ r. whole (r >>= (λ n. block_at ds 17 n.1 >>= (λ b. Ok ((n.0, b.0), b.1))))) e
  name_fails R (fault.Memory left) e of_text = absurd of_text

  pub body_fails : (R : Type 0) (f : TextFault) (n : List ℕ) (us : Tokens) → fresh_name_at ds ts ≡ Ok (n, us) → Breaks R f (block_at ds 17 us) → Breaks R f (script_at k ds text)
  body_fails R (fault.Text c left) n us g e =
      defines k ds w text ts is h some ∙ ap (λ r. whole (r >>= (λ n. block_at ds 17 n.1 >>= (λ b. Ok ((n.0, b.0), b.1))))) g ∙ ap (λ r. whole (r >>= (λ b. Ok ((n, b.0), b.1)))) e
  body_fails R (fault.Memory left) n us g e = e

  -- what stands behind the definition decides
  rest_is : (n : List ℕ) (us vs : Tokens) (b : Tree) → fresh_name_at ds ts ≡ Ok (n, us) → block_at ds 17 us ≡ Ok (b, vs) → script_at k ds text ≡ (script_at (k - 1) ((n, depth_in ds b) ∷ ds) vs >>= (λ t. Ok (define n b t)))
  rest_is n us vs b g e =
      defines k ds w text ts is h some ∙ ap (λ r. whole (r >>= (λ n. block_at ds 17 n.1 >>= (λ b. Ok ((n.0, b.0), b.1))))) g ∙ ap (λ r. whole (r >>= (λ b. Ok ((n, b.0), b.1)))) e

  pub rest_fails : (R : Type 0) (f : TextFault) (n : List ℕ) (us vs : Tokens) (b : Tree) (es : Scope ℕ) → fresh_name_at ds ts ≡ Ok (n, us) → block_at ds 17 us ≡ Ok (b, vs) → es ≡ (n, depth_in ds b) ∷ ds → Breaks R f (script_at (k - 1) es vs) → Breaks R f (script_at k ds text)
  rest_fails R (fault.Text c left) n us vs b es g e s r = rest_is n us vs b g e ∙ ap (λ z. z >>= (λ t. Ok (define n b t))) (ap (λ z. script_at (k - 1) z vs) (sym s) ∙ r)
  rest_fails R (fault.Memory left) n us vs b es g e s r = r

  pub all_read : (n : List ℕ) (us vs : Tokens) (b t : Tree) (es : Scope ℕ) → fresh_name_at ds ts ≡ Ok (n, us) → block_at ds 17 us ≡ Ok (b, vs) → es ≡ (n, depth_in ds b) ∷ ds → script_at (k - 1) es vs ≡ Ok t → script_at k ds text ≡ Ok (define n b t)
  all_read n us vs b t es g e s r = rest_is n us vs b g e ∙ ap (λ z. z >>= (λ t. Ok (define n b t))) (ap (λ z. script_at (k - 1) z vs) (sym s) ∙ r)

-- a depth that was not cut
pub not_cut : (n : List ℕ) (d x : ℕ) (ds : Scope ℕ) → d ≡ min 17 x → x ≤ 16 → (n, d) ∷ ds ≡ (n, x) ∷ ds
not_cut n d x ds e h = let same_bytes : d ≡ x = omega (arith, e, h) in ap (λ v. (n, v) ∷ ds) same_bytes

-- a script with too many messages, and one with few enough
cut : (ts : Tokens) (t : Tree) (b : Bool) → nat_le (worst_messages t) 1000000 ≡ b → bounded ts t ≡ cond b (Ok t) (fails cause.Messages ts)
cut ts t b e = ap (λ c. cond c (Ok t) (fails cause.Messages ts)) e

pub too_many : (ts : Tokens) (r : Result Tree Failure) (t : Tree) → r ≡ Ok t → 1000000 < worst_messages t → (r >>= (λ u. bounded ts u)) ≡ fails cause.Messages ts
too_many ts r t e many = ap (λ q. q >>= (λ u. bounded ts u)) e ∙ cut ts t false (grind (arith, nat_tests))

pub few_enough : (ts : Tokens) (r : Result Tree Failure) (t : Tree) → r ≡ Ok t → worst_messages t ≤ 1000000 → (r >>= (λ u. bounded ts u)) ≡ Ok t
few_enough ts r t e few = ap (λ q. q >>= (λ u. bounded ts u)) e ∙ cut ts t true (grind (arith, nat_tests))
