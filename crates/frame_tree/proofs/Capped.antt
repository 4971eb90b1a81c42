-- A count that is cut at a limit, and what comes of it.
use Rattle.std.proofs.Common.{◌≡◌, ℕ, zero, suc, ◌*◌, min, Bool, true, false, List, [], ◌∷◌, refl, ap, ◌∙◌, arith, if◌then◌else◌}
use Rattle.frame_tree.specs.Tree.{Tree, send, retry, gap, repeat, choose, until, timed, nothing, chained, call, define}
use Rattle.frame_tree.specs.Names.{Scope, meant_by, same_bytes}
use Rattle.frame_tree.specs.Bounds.{messages_in, depth_in}

-- the same names, each with the same number up to the limit
abbrev pub Alike : ℕ → Scope ℕ → Scope ℕ → Type 0
Alike k [] [] = Unit {0}
Alike k (d ∷ ds) (e ∷ es) = (d.0 ≡ e.0) × (min k d.1 ≡ min k e.1) × Alike k ds es
Alike k _ _ = ⊥

pub alike : (k : ℕ) (ds : Scope ℕ) → Alike k ds ds
alike k [] = tt
alike k (d ∷ ds) = (refl, refl, alike k ds)

named_choice : (k : ℕ) (b : Bool) (x y u v : ℕ) → min k x ≡ min k y → min k u ≡ min k v → min k (if b then x else u) ≡ min k (if b then y else v)
named_choice k true x y u v e f = e
named_choice k false x y u v e f = f

named_alike : (k : ℕ) (ds es : Scope ℕ) (n : List ℕ) → Alike k ds es → min k (meant_by 0 ds n) ≡ min k (meant_by 0 es n)
named_alike k [] [] n h = refl
named_alike k [] (e ∷ es) n h = absurd h
named_alike k (d ∷ ds) [] n h = absurd h
named_alike k (d ∷ ds) (e ∷ es) n h =
    named_choice k (same_bytes d.0 n) d.1 e.1 (meant_by 0 ds n) (meant_by 0 es n) h.1 (named_alike k ds es n h.2)
    ∙ ap (λ m. min k (if same_bytes m n then e.1 else meant_by 0 es n)) h.0

times_alike : (k n a b : ℕ) → min k a ≡ min k b → min k (n * a) ≡ min k (n * b)
times_alike k zero a b e = omega (arith, e)
times_alike k (suc n) a b e = omega (arith, e, times_alike k n a b e)

pub messages_alike : (k : ℕ) (t : Tree) (ds es : Scope ℕ) → Alike k ds es → min k (messages_in ds t) ≡ min k (messages_in es t)
messages_alike k (send l m) ds es h = refl
messages_alike k (retry n l m) ds es h = refl
messages_alike k (gap t) ds es h = refl
messages_alike k (repeat n b) ds es h = times_alike k n (messages_in ds b) (messages_in es b) (messages_alike k b ds es h)
messages_alike k (choose c a b) ds es h = omega (arith, messages_alike k a ds es h, messages_alike k b ds es h)
messages_alike k (until c n b) ds es h = times_alike k n (messages_in ds b) (messages_in es b) (messages_alike k b ds es h)
messages_alike k (timed t b) ds es h = messages_alike k b ds es h
messages_alike k nothing ds es h = refl
messages_alike k (chained a b) ds es h = omega (arith, messages_alike k a ds es h, messages_alike k b ds es h)
messages_alike k (call n) ds es h = named_alike k ds es n h
messages_alike k (define n b r) ds es h = messages_alike k r _ _ (refl, messages_alike k b ds es h, h)

pub depth_alike : (k : ℕ) (t : Tree) (ds es : Scope ℕ) → Alike k ds es → min k (depth_in ds t) ≡ min k (depth_in es t)
depth_alike k (send l m) ds es h = refl
depth_alike k (retry n l m) ds es h = refl
depth_alike k (gap t) ds es h = refl
depth_alike k (repeat n b) ds es h = omega (arith, depth_alike k b ds es h)
depth_alike k (choose c a b) ds es h = omega (arith, depth_alike k a ds es h, depth_alike k b ds es h)
depth_alike k (until c n b) ds es h = omega (arith, depth_alike k b ds es h)
depth_alike k (timed t b) ds es h = omega (arith, depth_alike k b ds es h)
depth_alike k nothing ds es h = refl
depth_alike k (chained a b) ds es h = omega (arith, depth_alike k a ds es h, depth_alike k b ds es h)
depth_alike k (call n) ds es h = named_alike k ds es n h
depth_alike k (define n b r) ds es h = omega (arith, depth_alike k b ds es h, depth_alike k r ((n, depth_in ds b) ∷ ds) ((n, depth_in es b) ∷ es) (refl, depth_alike k b ds es h, h))

-- a number that is cut already may stand for the whole
pub messages_cut : (n : List ℕ) (c : ℕ) (b r : Tree) (ds : Scope ℕ) → c ≡ min 1000001 (messages_in ds b) → min 1000001 (messages_in ((n, c) ∷ ds) r) ≡ min 1000001 (messages_in ds (define n b r))
messages_cut n c b r ds e = messages_alike 1000001 r _ _ (refl, omega (arith, e), alike 1000001 ds)

pub depth_cut : (n : List ℕ) (c : ℕ) (b r : Tree) (ds : Scope ℕ) → c ≡ min 17 (depth_in ds b) → min 17 (depth_in ((n, c) ∷ ds) r) ≡ min 17 (depth_in ((n, depth_in ds b) ∷ ds) r)
depth_cut n c b r ds e = depth_alike 17 r _ _ (refl, omega (arith, e), alike 17 ds)
