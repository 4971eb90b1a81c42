-- A builder's run gives the packets of the cutting.
use Rattle.std.proofs.Common.{◌≡◌, ℕ, ◌+◌, Bool, true, false, cond, List, [], ◌∷◌, ◌++◌, refl, sym, ap, ◌∙◌, append_assoc}
use Rattle.ch11_builder.specs.Packet.{Numbered, Channel, last_number, packet}
use Rattle.ch11_builder.specs.Cutting.{is_piece, cut_behind, packets_from, packets}
use Rattle.ch11_builder.specs.Held.{Held, fresh, fits, pushed, closed, with_record, packet_of}
use Rattle.ch11_builder.specs.Run.{after, closed_by_pushes, last_packet}

abbrev open_at : Channel → ℕ → ℕ → List Numbered → Held
open_at c place before ns = record { channel = c; place = place; before = before; records = ns }

abbrev run_of : Held → List Numbered → List (List ℕ)
run_of s ns = closed_by_pushes s ns ++ last_packet (after s ns)

pushed_fits : (s : Held) (n : Numbered) → fits s n ≡ true → pushed s n ≡ with_record s n
unfolding pushed
pushed_fits s n e = rw e refl

opened : (s : Held) (n : Numbered) → fits s n ≡ false → pushed s n ≡ with_record (closed s) n
unfolding pushed
opened s n e = rw e refl

fits_open : (c : Channel) (place before : ℕ) (m : Numbered) (ms : List Numbered) (n : Numbered) → fits (open_at c place before (m ∷ ms)) n ≡ is_piece c.limit ((m ∷ ms) ++ n ∷ [])
unfolding fits
fits_open c place before m ms n = refl

step : (s : Held) (n : Numbered) (ns : List Numbered) → run_of s (n ∷ ns) ≡ cond (fits s n) [] (packet_of s ∷ []) ++ run_of (pushed s n) ns
step s n ns = append_assoc (cond (fits s n) [] (packet_of s ∷ [])) (closed_by_pushes (pushed s n) ns) (last_packet (after (pushed s n) ns))

run : (c : Channel) (place before : ℕ) (m : Numbered) (ms ns : List Numbered) → run_of (open_at c place before (m ∷ ms)) ns ≡ packets_from c place before (cut_behind c.limit (m ∷ ms) ns)
run c place before m ms [] = refl
run c place before m ms (n ∷ ns) =
    step (open_at c place before (m ∷ ms)) n ns
    ∙ go (is_piece c.limit ((m ∷ ms) ++ n ∷ [])) refl (fits_open c place before m ms n) (run c place before m (ms ++ n ∷ []) ns) (run c (place + 1) (last_number before (m ∷ ms)) n [] ns)
  where
    go : (b : Bool) → is_piece c.limit ((m ∷ ms) ++ n ∷ []) ≡ b → fits (open_at c place before (m ∷ ms)) n ≡ is_piece c.limit ((m ∷ ms) ++ n ∷ [])
        → run_of (open_at c place before (m ∷ (ms ++ n ∷ []))) ns ≡ packets_from c place before (cut_behind c.limit (m ∷ (ms ++ n ∷ [])) ns)
        → run_of (open_at c (place + 1) (last_number before (m ∷ ms)) (n ∷ [])) ns ≡ packets_from c (place + 1) (last_number before (m ∷ ms)) (cut_behind c.limit (n ∷ []) ns)
        → cond (fits (open_at c place before (m ∷ ms)) n) [] (packet_of (open_at c place before (m ∷ ms)) ∷ []) ++ run_of (pushed (open_at c place before (m ∷ ms)) n) ns
        ≡ packets_from c place before (cut_behind c.limit (m ∷ ms) (n ∷ ns))
    go true e f one other = rw (pushed_fits (open_at c place before (m ∷ ms)) n (f ∙ e), f ∙ e, e) one
    go false e f one other = rw (opened (open_at c place before (m ∷ ms)) n (f ∙ e), f ∙ e, e) (ap (λ (ps : List (List ℕ)). packet c place before (m ∷ ms) ∷ ps) other)

pub run_gives_the_packets : (c : Channel) (ns : List Numbered) → closed_by_pushes (fresh c) ns ++ last_packet (after (fresh c) ns) ≡ packets c ns
unfolding fits pushed
run_gives_the_packets c [] = refl
run_gives_the_packets c (n ∷ ns) = run c 0 0 n [] ns

pub after_more : (s : Held) (ns : List Numbered) (n : Numbered) → after s (ns ++ n ∷ []) ≡ pushed (after s ns) n
after_more s [] n = refl
after_more s (m ∷ ns) n = after_more (pushed s m) ns n

append_none : (xs : List (List ℕ)) → xs ++ [] ≡ xs
append_none [] = refl
append_none (x ∷ xs) = ap (λ (ys : List (List ℕ)). x ∷ ys) (append_none xs)

pub closed_more : (s : Held) (ns : List Numbered) (n : Numbered)
    → closed_by_pushes s (ns ++ n ∷ []) ≡ closed_by_pushes s ns ++ cond (fits (after s ns) n) [] (packet_of (after s ns) ∷ [])
closed_more s [] n = append_none (cond (fits s n) [] (packet_of s ∷ []))
closed_more s (m ∷ ns) n =
    ap (λ (ps : List (List ℕ)). cond (fits s m) [] (packet_of s ∷ []) ++ ps) (closed_more (pushed s m) ns n)
    ∙ sym (append_assoc (cond (fits s m) [] (packet_of s ∷ [])) (closed_by_pushes (pushed s m) ns) (cond (fits (after (pushed s m) ns) n) [] (packet_of (after (pushed s m) ns) ∷ [])))
