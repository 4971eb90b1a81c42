-- There is one merge.
use Rattle.std.proofs.Common.{◌≡◌, ◌⊎◌, inl, inr, ℕ, ◌<◌, ◌≤◌, List, [], ◌∷◌, refl, sym, ap, subst, ◌∙◌, arith}
use Rattle.std.proofs.lemmas.Bool.{cases_eq}
use Rattle.ch11_header.specs.declared.header.Header.{Header}
use Rattle.bench_complete.specs.Pieces.{Piece}
use Rattle.bench_complete.specs.Merging.{of_channel, turn, IsNotBehind, IsHead, IsMergeOrder, IsMerge}
use Rattle.bench_complete.specs.Laws.{NeverFalls}
use Rattle.bench_complete.proofs.Merged.{of_channel-same, of_channel-other}

by_turn : (a b : Header) → (turn a.kind < turn b.kind) ⊎ ((turn a.kind ≡ turn b.kind) × (a.channel ≤ b.channel)) → (turn b.kind < turn a.kind) ⊎ ((turn b.kind ≡ turn a.kind) × (b.channel ≤ a.channel)) → a.channel ≡ b.channel
by_turn a b (inl x) (inl y) = absurd (omega (arith, x, y))
by_turn a b (inl x) (inr y) = absurd (omega (arith, x, y.0))
by_turn a b (inr x) (inl y) = absurd (omega (arith, x.0, y))
by_turn a b (inr x) (inr y) = omega (arith, x.1, y.1)

one_channel : (a b : Header) → IsNotBehind a b → IsNotBehind b a → a.channel ≡ b.channel
one_channel a b (inl x) (inl y) = absurd (omega (arith, x, y))
one_channel a b (inl x) (inr y) = absurd (omega (arith, x, y.0))
one_channel a b (inr x) (inl y) = absurd (omega (arith, x.0, y))
one_channel a b (inr x) (inr y) = by_turn a b x.1 y.1

own : (p : Piece) (ps : List Piece) → of_channel p.header.channel (p ∷ ps) ≡ p ∷ of_channel p.header.channel ps
own p ps = of_channel-same p.header.channel p ps refl

none_there : (q : Piece) (vs : List Piece) → of_channel q.header.channel [] ≡ of_channel q.header.channel (q ∷ vs) → ⊥
none_there q vs same = let there = own q vs in absurd (cc)

tails : (p q : Piece) (us vs : List Piece) (channel : ℕ) → p ≡ q → of_channel channel (p ∷ us) ≡ of_channel channel (q ∷ vs) → (p.header.channel ≡ channel) ⊎ (p.header.channel ≡ channel → ⊥) → of_channel channel us ≡ of_channel channel vs
tails p q us vs channel one same (inl is) =
    let a = of_channel-same channel p us is in
    let b = of_channel-same channel q vs (ap (λ (x : Piece). x.header.channel) (sym one) ∙ is) in
    cc
tails p q us vs channel one same (inr ne) =
    sym (of_channel-other channel p us ne) ∙ same ∙ of_channel-other channel q vs (λ e. ne (ap (λ (x : Piece). x.header.channel) one ∙ e))

pub unique : (a b : List Piece) → IsMergeOrder a → IsMergeOrder b → ((channel : ℕ) → of_channel channel a ≡ of_channel channel b) → a ≡ b
unique [] [] x y same = refl
unique [] (q ∷ vs) x y same = absurd (none_there q vs (same q.header.channel))
unique (p ∷ us) [] x y same = absurd (none_there p us (sym (same p.header.channel)))
unique (p ∷ us) (q ∷ vs) x y same =
    let first : IsHead (q ∷ vs) p = (of_channel p.header.channel us, sym (same p.header.channel) ∙ own p us) in
    let second : IsHead (p ∷ us) q = (of_channel q.header.channel vs, same q.header.channel ∙ own q vs) in
    let channel = one_channel p.header q.header (x.0 q second) (y.0 p first) in
    let a = own p us in
    let b = of_channel-same p.header.channel q vs (sym channel) in
    let both = same p.header.channel in
    let one : p ≡ q = cc in
    let rest = unique us vs x.1 y.1 (λ k. tails p q us vs k one (same k) (cases_eq p.header.channel k)) in
    ap (λ (z : Piece). z ∷ us) one ∙ ap (λ (l : List Piece). q ∷ l) rest

pub merge_is_unique : (parts other a b : List Piece) → ((channel : ℕ) → of_channel channel parts ≡ of_channel channel other) → IsMerge parts a → IsMerge other b → a ≡ b
merge_is_unique parts other a b same x y = unique a b x.order y.order (λ k. x.channels k ∙ same k ∙ sym (y.channels k))

-- ---- counters

at_most : (a b : Header) → IsNotBehind a b → a.counter ≤ b.counter
at_most a b (inl x) = omega (arith, x)
at_most a b (inr x) = omega (arith, x.0)

falls_behind : (p : Piece) (ps : List Piece) → NeverFalls (p ∷ ps) → NeverFalls ps
falls_behind p [] n = tt
falls_behind p (q ∷ ps) n = n.1

behind_by : (p : Piece) (ps : List Piece) (channel : ℕ) → NeverFalls (of_channel channel (p ∷ ps)) → (p.header.channel ≡ channel) ⊎ (p.header.channel ≡ channel → ⊥) → NeverFalls (of_channel channel ps)
behind_by p ps channel n (inl is) = falls_behind p (of_channel channel ps) (subst NeverFalls (of_channel-same channel p ps is) n)
behind_by p ps channel n (inr ne) = subst NeverFalls (of_channel-other channel p ps ne) n

next_by : (p q : Piece) (ms : List Piece) → IsMergeOrder (p ∷ (q ∷ ms)) → NeverFalls (of_channel p.header.channel (p ∷ (q ∷ ms))) → (q.header.channel ≡ p.header.channel) ⊎ (q.header.channel ≡ p.header.channel → ⊥) → p.header.counter ≤ q.header.counter
next_by p q ms o n (inl same) =
    let whole : of_channel p.header.channel (p ∷ (q ∷ ms)) ≡ p ∷ (q ∷ of_channel p.header.channel ms) = own p (q ∷ ms) ∙ ap (λ (l : List Piece). p ∷ l) (of_channel-same p.header.channel q ms same) in
    let pair : NeverFalls (p ∷ (q ∷ of_channel p.header.channel ms)) = subst NeverFalls whole n in
    pair.0
next_by p q ms o n (inr ne) =
    at_most p.header q.header (o.0 q (of_channel q.header.channel ms, of_channel-other q.header.channel p (q ∷ ms) (λ e. ne (sym e)) ∙ own q ms))

pub in_order_rises : (ms : List Piece) → IsMergeOrder ms → ((channel : ℕ) → NeverFalls (of_channel channel ms)) → NeverFalls ms
in_order_rises [] o n = tt
in_order_rises (p ∷ []) o n = tt
in_order_rises (p ∷ (q ∷ ms)) o n =
    (next_by p q ms o (n p.header.channel) (cases_eq q.header.channel p.header.channel), in_order_rises (q ∷ ms) o.1 (λ k. behind_by p (q ∷ ms) k (n k) (cases_eq p.header.channel k)))

pub counters_stay : (parts merged : List Piece) → IsMerge parts merged → ((channel : ℕ) → NeverFalls (of_channel channel parts)) → NeverFalls merged
counters_stay parts merged m n = in_order_rises merged m.order (λ k. subst NeverFalls (sym (m.channels k)) (n k))

pub merged_again : (parts merged : List Piece) → IsMerge parts merged → IsMerge merged merged
merged_again parts merged m = record { channels = λ k. refl; order = m.order }
