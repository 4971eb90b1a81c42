-- What packets say of messages that are missing, packet by packet.
use Rattle.std.proofs.Common.{◌≡◌, ℕ, ◌+◌, ◌-◌, ◌<◌, ◌≤◌, ◌^◌, List, [], ◌∷◌, ◌++◌, length, reverse, Bool, true, false, cond, refl, sym, ap, ◌∙◌, append_assoc, arith}
use Rattle.std.specs.List.{filter}
use Rattle.std.proofs.lemmas.List.{append-nil, length-append, length-reverse, reverse-append, reverse-reverse}
use Rattle.std.proofs.lemmas.List.Elements.{filter-append}
use Rattle.std.proofs.lemmas.List.Sums.{count_by-le-length, length-filter}
use Rattle.ch11_reader.specs.Contents.{capped}
use Rattle.ch11_reader.specs.declared.packet.Packet.{Packet}
use Rattle.ch11_reader.specs.Listing.{listed_behind, listing_behind, listing}
use Rattle.ch11_reader.specs.Recording.{Found}
use Rattle.ch11_stream.specs.Reading.{IsStep, Reading, last_found}
use Rattle.ch11_stream.proofs.Folding.{one_behind}
use Rattle.bench_judge.specs.declared.losses.Lost.{Lost}
use Rattle.bench_judge.specs.Losses.{jumps, lost_of, overflows}

-- one packet more of those for which a test holds
one_more : (p : Packet → Bool) (xs : List Packet) (x : Packet) → length (filter p (xs ++ x ∷ [])) ≡ length (filter p xs) + cond (p x) 1 0
one_more p xs x = ap length (filter-append p xs (x ∷ [])) ∙ length-append (filter p xs) (filter p (x ∷ [])) ∙ ap (λ (n : ℕ). length (filter p xs) + n) (one (p x))
  where
    one : (b : Bool) → length (cond b (x ∷ []) []) ≡ cond b 1 0
    one true = refl
    one false = refl

at_most_one : (b : Bool) → cond b 1 0 ≤ 1
at_most_one true = omega arith
at_most_one false = omega arith

not_capped : (n m : ℕ) → n < 2 ^ 64 - 1 → m ≤ 1 → capped (n + m) ≡ n + m
not_capped n m few one = omega (arith, few, one)

pub one_counted : (p : Packet → Bool) (xs : List Packet) (x : Packet) (n : ℕ) → length xs < 2 ^ 64 - 1 → n ≡ length (filter p xs) → capped (n + cond (p x) 1 0) ≡ length (filter p (xs ++ x ∷ []))
one_counted p xs x n few is = not_capped n (cond (p x) 1 0) fewer (at_most_one (p x)) ∙ ap (λ (k : ℕ). k + cond (p x) 1 0) is ∙ sym (one_more p xs x)
  where
    fewer : n < 2 ^ 64 - 1
    fewer = omega (arith, few, is, length-filter p xs, count_by-le-length p xs)

abbrev pub losses : ℕ → ℕ → Lost
losses n m = record { overflows = n; jumps = m }

pub lost_more : (packets : List Packet) (p : Packet) (old : Lost) → length packets < 2 ^ 64 - 1 → old ≡ lost_of packets
    → losses (capped (old.overflows + cond (overflows p) 1 0)) (capped (old.jumps + cond (jumps p) 1 0)) ≡ lost_of (packets ++ p ∷ [])
lost_more packets p old few is =
    ap (λ (n : ℕ). losses n (capped (old.jumps + cond (jumps p) 1 0))) (one_counted overflows packets p old.overflows few (ap (λ (l : Lost). l.overflows) is))
    ∙ ap (losses (length (filter overflows (packets ++ p ∷ [])))) (one_counted jumps packets p old.jumps few (ap (λ (l : Lost). l.jumps) is))

listing_more : (earlier ps : List Found) (q : Found) → listing_behind earlier (ps ++ q ∷ []) ≡ listing_behind earlier ps ++ listed_behind (reverse ps ++ earlier) q ∷ []
listing_more earlier [] q = refl
listing_more earlier (p ∷ ps) q = ap (λ (es : List Packet). listed_behind earlier p ∷ es) (listing_more (p ∷ earlier) ps q ∙ ap (λ (fs : List Found). listing_behind (p ∷ earlier) ps ++ listed_behind fs q ∷ []) same)
  where
    same : reverse ps ++ (p ∷ earlier) ≡ reverse (p ∷ ps) ++ earlier
    same = sym (ap (λ (l : List Found). l ++ earlier) (reverse-append (p ∷ []) ps) ∙ append_assoc (reverse ps) (p ∷ []) earlier)

listing_one : (ps : List Found) (q : Found) (p : Packet) → p ≡ listed_behind (reverse ps) q → listing (ps ++ q ∷ []) ≡ listing ps ++ p ∷ []
listing_one ps q p is =
    listing_more [] ps q ∙ ap (λ (fs : List Found). listing ps ++ listed_behind fs q ∷ []) (append-nil (reverse ps)) ∙ ap (λ (x : Packet). listing ps ++ x ∷ []) (sym is)

length_listing : (earlier ps : List Found) → length (listing_behind earlier ps) ≡ length ps
length_listing earlier [] = refl
length_listing earlier (p ∷ ps) = omega (arith, length_listing (p ∷ earlier) ps)

-- so many packets as were read are listed
pub few_listed : (earlier : List Found) → length earlier < 2 ^ 64 - 1 → length (listing (reverse earlier)) < 2 ^ 64 - 1
few_listed earlier few = omega (arith, few, length_listing [] (reverse earlier), length-reverse earlier)

-- the packet that was read is listed behind the others
pub listed_next : (before now : Reading) (p : Packet) → IsStep before now p → listing (reverse now.earlier) ≡ listing (reverse before.earlier) ++ p ∷ []
listed_next before now p step =
    ap (λ (ps : List Found). listing (reverse ps)) step.entered
    ∙ ap listing (one_behind (last_found now p) before.earlier)
    ∙ listing_one (reverse before.earlier) (last_found now p) p (step.listed ∙ ap (λ (fs : List Found). listed_behind fs (last_found now p)) (sym (reverse-reverse before.earlier)))
