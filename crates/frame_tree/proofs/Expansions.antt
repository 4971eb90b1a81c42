-- What the expansion of a tree keeps.
use Rattle.std.proofs.Common.{◌≡◌, ℕ, ◌≤◌, ◌*◌, ◌+◌, max, Bool, true, false, List, [], ◌∷◌, refl, ap, ap₂, ◌∙◌, subst, arith}
use Rattle.std.specs.Prelude.{if◌then◌else◌}
use Rattle.frame_tree.specs.Tree.{Tree, send, retry, gap, repeat, choose, until, timed, nothing, chained, call, define}
use Rattle.frame_tree.specs.Names.{Scope, meant_by, same_bytes}
use Rattle.frame_tree.specs.Bounds.{messages_in, depth_in, CallsKnown}
use Rattle.frame_tree.specs.Expansion.{expanded}

-- the same names, each with a tree that sends so many messages wherever it stands
abbrev pub Send : Scope Tree → Scope ℕ → Type 0
Send [] [] = Unit {0}
Send (d ∷ ds) (v ∷ vs) = (d.0 ≡ v.0) × ((cs : Scope ℕ) → messages_in cs d.1 ≡ v.1) × Send ds vs
Send _ _ = ⊥

send_chosen : (b : Bool) (t u : Tree) (x y : ℕ) (cs : Scope ℕ) → messages_in cs t ≡ x → messages_in cs u ≡ y → messages_in cs (if b then t else u) ≡ (if b then x else y)
send_chosen true t u x y cs e f = e
send_chosen false t u x y cs e f = f

send_named : (cs : Scope ℕ) (ds : Scope Tree) (vs : Scope ℕ) (n : List ℕ) → Send ds vs → messages_in cs (meant_by nothing ds n) ≡ meant_by 0 vs n
send_named cs [] [] n h = refl
send_named cs [] (v ∷ vs) n h = absurd h
send_named cs (d ∷ ds) [] n h = absurd h
send_named cs (d ∷ ds) (v ∷ vs) n h =
    send_chosen (same_bytes d.0 n) d.1 (meant_by nothing ds n) v.1 (meant_by 0 vs n) cs (h.1 cs) (send_named cs ds vs n h.2)
    ∙ ap (λ m. if same_bytes m n then v.1 else meant_by 0 vs n) h.0

pub messages_kept : (t : Tree) (cs : Scope ℕ) (ds : Scope Tree) (vs : Scope ℕ) → Send ds vs → messages_in cs (expanded ds t) ≡ messages_in vs t
messages_kept (send l m) cs ds vs h = refl
messages_kept (retry n l m) cs ds vs h = refl
messages_kept (gap t) cs ds vs h = refl
messages_kept (repeat n b) cs ds vs h = ap (λ x. n * x) (messages_kept b cs ds vs h)
messages_kept (choose c a b) cs ds vs h = ap₂ (λ x y. max x y) (messages_kept a cs ds vs h) (messages_kept b cs ds vs h)
messages_kept (until c n b) cs ds vs h = ap (λ x. n * x) (messages_kept b cs ds vs h)
messages_kept (timed t b) cs ds vs h = messages_kept b cs ds vs h
messages_kept nothing cs ds vs h = refl
messages_kept (chained a b) cs ds vs h = ap₂ (λ x y. x + y) (messages_kept a cs ds vs h) (messages_kept b cs ds vs h)
messages_kept (call n) cs ds vs h = send_named cs ds vs n h
messages_kept (define n b r) cs ds vs h = messages_kept r cs _ _ (refl, λ cs'. messages_kept b cs' ds vs h, h)

-- the same names, each with a tree that is at most so deep wherever it stands
abbrev pub Deep : Scope Tree → Scope ℕ → Type 0
Deep [] [] = Unit {0}
Deep (d ∷ ds) (v ∷ vs) = (d.0 ≡ v.0) × ((cs : Scope ℕ) → depth_in cs d.1 ≤ v.1) × Deep ds vs
Deep _ _ = ⊥

deep_chosen : (b : Bool) (t u : Tree) (x y : ℕ) (cs : Scope ℕ) → depth_in cs t ≤ x → depth_in cs u ≤ y → depth_in cs (if b then t else u) ≤ (if b then x else y)
deep_chosen true t u x y cs e f = e
deep_chosen false t u x y cs e f = f

deep_named : (cs : Scope ℕ) (ds : Scope Tree) (vs : Scope ℕ) (n : List ℕ) → Deep ds vs → depth_in cs (meant_by nothing ds n) ≤ meant_by 0 vs n
deep_named cs [] [] n h = omega arith
deep_named cs [] (v ∷ vs) n h = absurd h
deep_named cs (d ∷ ds) [] n h = absurd h
deep_named cs (d ∷ ds) (v ∷ vs) n h =
    subst (λ m. depth_in cs (if same_bytes d.0 n then d.1 else meant_by nothing ds n) ≤ (if same_bytes m n then v.1 else meant_by 0 vs n)) h.0
    (deep_chosen (same_bytes d.0 n) d.1 (meant_by nothing ds n) v.1 (meant_by 0 vs n) cs (h.1 cs) (deep_named cs ds vs n h.2))

pub depth_kept : (t : Tree) (cs : Scope ℕ) (ds : Scope Tree) (vs : Scope ℕ) → Deep ds vs → depth_in cs (expanded ds t) ≤ depth_in vs t
depth_kept (send l m) cs ds vs h = omega arith
depth_kept (retry n l m) cs ds vs h = omega arith
depth_kept (gap t) cs ds vs h = omega arith
depth_kept (repeat n b) cs ds vs h = omega (arith, depth_kept b cs ds vs h)
depth_kept (choose c a b) cs ds vs h = omega (arith, depth_kept a cs ds vs h, depth_kept b cs ds vs h)
depth_kept (until c n b) cs ds vs h = omega (arith, depth_kept b cs ds vs h)
depth_kept (timed t b) cs ds vs h = omega (arith, depth_kept b cs ds vs h)
depth_kept nothing cs ds vs h = omega arith
depth_kept (chained a b) cs ds vs h = omega (arith, depth_kept a cs ds vs h, depth_kept b cs ds vs h)
depth_kept (call n) cs ds vs h = deep_named cs ds vs n h
depth_kept (define n b r) cs ds vs h = omega (arith, depth_kept r cs ((n, expanded ds b) ∷ ds) ((n, depth_in vs b) ∷ vs) (refl, λ cs'. depth_kept b cs' ds vs h, h))

-- trees without calls and definitions
abbrev pub ArePlain : Scope Tree → Type 0
ArePlain [] = Unit {0}
ArePlain (d ∷ ds) = CallsKnown {X = ℕ} [] d.1 × ArePlain ds

plain_chosen : (b : Bool) (t u : Tree) → CallsKnown {X = ℕ} [] t → CallsKnown {X = ℕ} [] u → CallsKnown {X = ℕ} [] (if b then t else u)
plain_chosen true t u e f = e
plain_chosen false t u e f = f

plain_named : (ds : Scope Tree) (n : List ℕ) → ArePlain ds → CallsKnown {X = ℕ} [] (meant_by nothing ds n)
plain_named [] n h = tt
plain_named (d ∷ ds) n h = plain_chosen (same_bytes d.0 n) d.1 (meant_by nothing ds n) h.0 (plain_named ds n h.1)

pub plain_kept : (t : Tree) (ds : Scope Tree) → ArePlain ds → CallsKnown {X = ℕ} [] (expanded ds t)
plain_kept (send l m) ds h = tt
plain_kept (retry n l m) ds h = tt
plain_kept (gap t) ds h = tt
plain_kept (repeat n b) ds h = plain_kept b ds h
plain_kept (choose c a b) ds h = (plain_kept a ds h, plain_kept b ds h)
plain_kept (until c n b) ds h = plain_kept b ds h
plain_kept (timed t b) ds h = plain_kept b ds h
plain_kept nothing ds h = tt
plain_kept (chained a b) ds h = (plain_kept a ds h, plain_kept b ds h)
plain_kept (call n) ds h = plain_named ds n h
plain_kept (define n b r) ds h = plain_kept r ((n, expanded ds b) ∷ ds) (plain_kept b ds h, h)
