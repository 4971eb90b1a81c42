-- Which records one packet can hold.
use Rattle.std.proofs.Common.{◌≡◌, ℕ, ◌+◌, ◌<◌, ◌≤◌, Bool, true, false, ◌&&◌, leb, ltb, List, [], ◌∷◌, ◌++◌, length, refl, arith}
use Rattle.std.proofs.lemmas.Bool.{leb-true, ltb-true, le-leb, lt-ltb}
use Rattle.ch11_f1.specs.BodyBytes.{words_of}
use Rattle.ch11_builder.specs.Packet.{Numbered, size_of, padded, packet_length}
use Rattle.ch11_builder.specs.Cutting.{is_piece, last_stamp, NeverFall}

both : (a b : Bool) → (a && b) ≡ true → (a ≡ true) × (b ≡ true)
both true true e = (refl, refl)
both true false e = cc
both false true e = cc
both false false e = cc

-- the two bounds
pub bounds_of : (limit : ℕ) (m : Numbered) (ms : List Numbered) → is_piece limit (m ∷ ms) ≡ true
    → (packet_length (m ∷ ms) ≤ limit) × (last_stamp m.message.stamp ms < m.message.stamp + 1000000)
bounds_of limit m ms is =
    let parts = both (leb (packet_length (m ∷ ms)) limit) (ltb (last_stamp m.message.stamp ms) (m.message.stamp + 1000000)) is in
    (leb-true (packet_length (m ∷ ms)) limit parts.0, ltb-true (last_stamp m.message.stamp ms) (m.message.stamp + 1000000) parts.1)

pub piece_by : (limit : ℕ) (m : Numbered) (ms : List Numbered) → packet_length (m ∷ ms) ≤ limit → last_stamp m.message.stamp ms < m.message.stamp + 1000000
    → is_piece limit (m ∷ ms) ≡ true
piece_by limit m ms le lt = rw (le-leb (packet_length (m ∷ ms)) limit le, lt-ltb (last_stamp m.message.stamp ms) (m.message.stamp + 1000000) lt) refl

-- one record of at most forty words
pub alone : (limit : ℕ) (n : Numbered) → 256 ≤ limit → length (words_of n.message) ≤ 40 → is_piece limit (n ∷ []) ≡ true
alone limit n low few = piece_by limit n [] (omega arith) (omega arith)

size_both : (ns ms : List Numbered) → size_of (ns ++ ms) ≡ size_of ns + size_of ms
size_both [] ms = omega arith
size_both (n ∷ ns) ms = omega (arith, size_both ns ms)

last_behind : (stamp : ℕ) (ns : List Numbered) (x : Numbered) (xs : List Numbered) → last_stamp stamp (ns ++ x ∷ xs) ≡ last_stamp x.message.stamp xs
last_behind stamp [] x xs = refl
last_behind stamp (n ∷ ns) x xs = last_behind n.message.stamp ns x xs

-- the last stamp is none of the lower ones
rises : (stamp : ℕ) (xs ys : List Numbered) → NeverFall stamp (xs ++ ys) → stamp ≤ last_stamp stamp xs
rises stamp [] ys r = omega arith
rises stamp (x ∷ xs) ys r = omega (arith, r.0, rises x.message.stamp xs ys r.1)

padded_more : (a b : ℕ) → a ≤ b → padded a ≤ padded b
padded_more a b le = omega arith

-- the front of a piece is a piece, where stamps never fall
pub front_is_piece : (limit : ℕ) (m : Numbered) (ms : List Numbered) (x : Numbered) (xs ys : List Numbered) → NeverFall x.message.stamp (xs ++ ys) → is_piece limit (m ∷ (ms ++ x ∷ xs)) ≡ true
    → is_piece limit (m ∷ (ms ++ x ∷ [])) ≡ true
front_is_piece limit m ms x xs ys never whole =
    let bounds = bounds_of limit m (ms ++ x ∷ xs) whole in
    let long : size_of (ms ++ x ∷ xs) ≡ size_of ms + size_of (x ∷ xs) = size_both ms (x ∷ xs) in
    let short : size_of (ms ++ x ∷ []) ≡ size_of ms + size_of (x ∷ []) = size_both ms (x ∷ []) in
    let later : last_stamp m.message.stamp (ms ++ x ∷ xs) ≡ last_stamp x.message.stamp xs = last_behind m.message.stamp ms x xs in
    let sooner : last_stamp m.message.stamp (ms ++ x ∷ []) ≡ x.message.stamp = last_behind m.message.stamp ms x [] in
    let less : packet_length (m ∷ (ms ++ x ∷ [])) ≤ packet_length (m ∷ (ms ++ x ∷ xs)) = padded_more (28 + size_of (m ∷ (ms ++ x ∷ []))) (28 + size_of (m ∷ (ms ++ x ∷ xs))) (omega arith) in
    piece_by limit m (ms ++ x ∷ []) (omega (arith, bounds.0)) (omega (arith, bounds.1, rises x.message.stamp xs ys never))
