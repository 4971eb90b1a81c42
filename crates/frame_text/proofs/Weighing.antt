-- What frames come to, part by part.
use Rattle.std.proofs.Common.{◌≡◌, ℕ, zero, suc, ◌+◌, ◌*◌, min, max, List, [], ◌∷◌, ◌++◌, sym, ap, ◌∙◌, subst, arith}
use Rattle.frame_tree.specs.Tree.{Tree, repeat, choose, until, timed, chain, define, Condition}
use Rattle.frame_tree.specs.Names.{Scope}
use Rattle.frame_tree.specs.Bounds.{depth_in, messages_in}
use Rattle.frame_tree.proofs.Capped.{messages_cut, depth_cut}
use Rattle.frame_text.specs.Weights.{IsWeight}
use Rattle.frame_text.specs.declared.weights.Weight.{Weight}

times_alike : (k n a b : ℕ) → min k a ≡ min k b → min k (n * a) ≡ min k (n * b)
times_alike k zero a b e = omega (arith, e)
times_alike k (suc n) a b e = omega (arith, e, times_alike k n a b e)

-- a product of a number that is cut
pub times_cut : (n x y : ℕ) → y ≡ min 1000001 x → min 1000001 (n * y) ≡ min 1000001 (n * x)
times_cut n x y e = times_alike 1000001 n y x (omega (arith, e))

module _ (ds ms : Scope ℕ) where
  -- what has the numbers of a tree, and is that tree's
  pub weighs : (t u : Tree) (w : Weight) → u ≡ t → w.messages ≡ min 1000001 (messages_in ms t) → w.depth ≡ min 17 (depth_in ds t) → IsWeight ds ms u w
  weighs t u w is messages depth = subst (λ x. IsWeight ds ms x w) (sym is) (record { messages = messages; depth = depth })

  pub weighs_repeat : (n : ℕ) (b u : Tree) (v w : Weight) → u ≡ repeat n b → w.messages ≡ min 1000001 (n * v.messages) → w.depth ≡ min 17 (max v.depth 0 + 1) → IsWeight ds ms b v → IsWeight ds ms u w
  weighs_repeat n b u v w is messages depth of = weighs _ u w is (messages ∙ times_cut n _ _ of.messages) (omega (arith, depth, of.depth))

  pub weighs_until : (c : Condition) (n : ℕ) (b u : Tree) (v w : Weight) → u ≡ until c n b → w.messages ≡ min 1000001 (n * v.messages) → w.depth ≡ min 17 (max v.depth 0 + 1) → IsWeight ds ms b v → IsWeight ds ms u w
  weighs_until c n b u v w is messages depth of = weighs _ u w is (messages ∙ times_cut n _ _ of.messages) (omega (arith, depth, of.depth))

  pub weighs_timed : (h : ℕ) (b u : Tree) (v w : Weight) → u ≡ timed h b → w.messages ≡ v.messages → w.depth ≡ min 17 (max v.depth 0 + 1) → IsWeight ds ms b v → IsWeight ds ms u w
  weighs_timed h b u v w is messages depth of = weighs _ u w is (messages ∙ of.messages) (omega (arith, depth, of.depth))

  pub weighs_choice : (c : Condition) (a b u : Tree) (x y w : Weight) → u ≡ choose c a b → w.messages ≡ max x.messages y.messages → w.depth ≡ min 17 (max x.depth y.depth + 1) → IsWeight ds ms a x → IsWeight ds ms b y → IsWeight ds ms u w
  weighs_choice c a b u x y w is messages depth first second =
      weighs _ u w is (omega (arith, messages, first.messages, second.messages)) (omega (arith, depth, first.depth, second.depth))

  pub weighs_definition : (n : List ℕ) (d cost : ℕ) (b r u : Tree) (x y w : Weight) → u ≡ define n b r → w.messages ≡ y.messages → w.depth ≡ max y.depth x.depth → IsWeight ds ms b x
      → d ≡ min 17 (depth_in ds b) → cost ≡ x.messages → IsWeight ((n, d) ∷ ds) ((n, cost) ∷ ms) r y → IsWeight ds ms u w
  weighs_definition n d cost b r u x y w is messages depth body cut costs rest =
      weighs _ u w is (messages ∙ rest.messages ∙ messages_cut n cost b r ms (costs ∙ body.messages)) (omega (arith, depth, rest.depth, body.depth, depth_cut n d b r ds cut))

  -- the numbers of one more tree at the end
  messages_more : (ts : List Tree) (t : Tree) → messages_in ms (chain (ts ++ t ∷ [])) ≡ messages_in ms (chain ts) + messages_in ms t
  messages_more [] t = omega arith
  messages_more (x ∷ xs) t = omega (arith, messages_more xs t)

  depth_more : (ts : List Tree) (t : Tree) → depth_in ds (chain (ts ++ t ∷ [])) ≡ max (depth_in ds (chain ts)) (depth_in ds t)
  depth_more [] t = omega arith
  depth_more (x ∷ xs) t = omega (arith, depth_more xs t)

  pub weighs_more : (ts us : List Tree) (t : Tree) (x y w : Weight) → us ≡ ts ++ t ∷ [] → w.messages ≡ min 1000001 (x.messages + y.messages) → w.depth ≡ max x.depth y.depth
      → IsWeight ds ms (chain ts) x → IsWeight ds ms t y → IsWeight ds ms (chain us) w
  weighs_more ts us t x y w is messages depth before one =
      weighs _ _ w (ap chain is) (omega (arith, messages, before.messages, one.messages, messages_more ts t)) (omega (arith, depth, before.depth, one.depth, depth_more ts t))

  pub weighs_whole : (t u : Tree) (v w : Weight) → u ≡ t → w.messages ≡ v.messages → w.depth ≡ v.depth → IsWeight ds ms t v → IsWeight ds ms u w
  weighs_whole t u v w is messages depth of = weighs t u w is (messages ∙ of.messages) (depth ∙ of.depth)
