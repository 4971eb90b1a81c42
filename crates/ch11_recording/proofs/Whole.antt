-- The packets of a recording, and how many of them stand whole within so many bytes.
use Rattle.std.proofs.Common.{◌≡◌, ℕ, suc, ◌+◌, ◌-◌, ◌<◌, ◌≤◌, Bool, true, false, cond, leb, List, [], ◌∷◌, ◌++◌, length, refl, sym, ap, ◌∙◌, append_assoc, arith}
use Rattle.std.specs.List.{AllByRecursion, concat}
use Rattle.std.proofs.lemmas.Bool.{le-leb, lt-leb}
use Rattle.std.proofs.lemmas.List.{append-nil, length-append}
use Rattle.ch11_builder.specs.Held.{Held, packet_of}
use Rattle.ch11_builder.specs.Laws.{PacketHasItsLength}
use Rattle.ch11_recording.specs.declared.item.Item.{Item}
use Rattle.ch11_recording.specs.Items.{channel_of}
use Rattle.ch11_recording.specs.WrittenFile.{Format, closes, held_in, closing, packets_behind, written_file, closed_by, closed_packets_behind, closed_packets, whole_packets}

-- ---- one packet behind the other

concat_both : (ps qs : List (List ℕ)) → concat (ps ++ qs) ≡ concat ps ++ concat qs
concat_both [] qs = refl
concat_both (p ∷ ps) qs = ap (λ (bytes : List ℕ). p ++ bytes) (concat_both ps qs) ∙ sym (append_assoc p (concat ps) (concat qs))

one_or_none : (b : Bool) (p : List ℕ) → cond b p [] ≡ concat (cond b (p ∷ []) [])
one_or_none true p = sym (append-nil p)
one_or_none false p = refl

pub closing_is_packet : (h : Held) (x : Item) → closing h x ≡ concat (closed_by h x)
closing_is_packet h x = one_or_none (closes h x) (packet_of h)

behind_is_packets : (f : Format) (earlier items : List Item) → packets_behind f earlier items ≡ concat (closed_packets_behind f earlier items)
behind_is_packets f earlier [] = refl
behind_is_packets f earlier (x ∷ later) =
    let h : Held = held_in f (channel_of x) earlier in
    ap (λ (bytes : List ℕ). bytes ++ packets_behind f (earlier ++ x ∷ []) later) (closing_is_packet h x)
    ∙ ap (λ (bytes : List ℕ). concat (closed_by h x) ++ bytes) (behind_is_packets f (earlier ++ x ∷ []) later)
    ∙ sym (concat_both (closed_by h x) (closed_packets_behind f (earlier ++ x ∷ []) later))

pub file_is_packets : (f : Format) (prologue : List ℕ) (items : List Item) → written_file f prologue items ≡ prologue ++ concat (closed_packets f items)
unfolding written_file closed_packets
file_is_packets f prologue items = ap (λ (bytes : List ℕ). prologue ++ bytes) (behind_is_packets f [] items)

-- ---- one more item

behind_more : (f : Format) (earlier items : List Item) (x : Item)
    → closed_packets_behind f earlier (items ++ x ∷ []) ≡ closed_packets_behind f earlier items ++ closed_by (held_in f (channel_of x) (earlier ++ items)) x
behind_more f earlier [] x = rw (append-nil earlier) (append-nil (closed_by (held_in f (channel_of x) earlier) x))
behind_more f earlier (y ∷ items) x =
    let first : List (List ℕ) = closed_by (held_in f (channel_of y) earlier) y in
    let last : List Item → List (List ℕ) = λ (xs : List Item). closed_by (held_in f (channel_of x) xs) x in
    ap (λ (ps : List (List ℕ)). first ++ ps) (behind_more f (earlier ++ y ∷ []) items x)
    ∙ sym (append_assoc first (closed_packets_behind f (earlier ++ y ∷ []) items) (last ((earlier ++ y ∷ []) ++ items)))
    ∙ ap (λ (xs : List Item). (first ++ closed_packets_behind f (earlier ++ y ∷ []) items) ++ last xs) (append_assoc earlier (y ∷ []) items)

pub packets_go_on : (f : Format) (items : List Item) (x : Item) → closed_packets f (items ++ x ∷ []) ≡ closed_packets f items ++ closed_by (held_in f (channel_of x) items) x
unfolding closed_packets
packets_go_on f items x = behind_more f [] items x

-- ---- no packet is empty

abbrev pub HaveBytes : List (List ℕ) → Type 0
HaveBytes ps = AllByRecursion (λ p. 0 < length p) ps

both_have_bytes : (ps qs : List (List ℕ)) → HaveBytes ps → HaveBytes qs → HaveBytes (ps ++ qs)
both_have_bytes [] qs first second = second
both_have_bytes (p ∷ ps) qs first second = (first.0, both_have_bytes ps qs first.1 second)

module _ (size : PacketHasItsLength) where
  pub packet_has_bytes : (h : Held) → 0 < length (packet_of h)
  packet_has_bytes h = omega (arith, size h.channel h.place h.before h.records)

  pub closed_has_bytes : (h : Held) (x : Item) → HaveBytes (closed_by h x)
  closed_has_bytes h x = go (closes h x)
    where
      go : (b : Bool) → HaveBytes (cond b (packet_of h ∷ []) [])
      go true = (packet_has_bytes h, tt)
      go false = tt

  behind_have_bytes : (f : Format) (earlier items : List Item) → HaveBytes (closed_packets_behind f earlier items)
  behind_have_bytes f earlier [] = tt
  behind_have_bytes f earlier (x ∷ later) =
      both_have_bytes (closed_by (held_in f (channel_of x) earlier) x) (closed_packets_behind f (earlier ++ x ∷ []) later)
      (closed_has_bytes (held_in f (channel_of x) earlier) x) (behind_have_bytes f (earlier ++ x ∷ []) later)

  pub packets_have_bytes : (f : Format) (items : List Item) → HaveBytes (closed_packets f items)
  unfolding closed_packets
  packets_have_bytes f items = behind_have_bytes f [] items

-- ---- whole packets

-- behind whole packets, the count goes on
pub whole_behind : (ps qs : List (List ℕ)) (k n : ℕ) → n ≡ length (concat ps) + k → whole_packets n (ps ++ qs) ≡ length ps + whole_packets k qs
whole_behind [] qs k n is = let same : n ≡ k = omega (arith, is) in rw same (sym (none_before (whole_packets k qs)))
  where
    none_before : (m : ℕ) → 0 + m ≡ m
    none_before m = omega arith
whole_behind (p ∷ ps) qs k n is =
    let long : length (p ++ concat ps) ≡ length p + length (concat ps) = length-append p (concat ps) in
    let rest : n - length p ≡ length (concat ps) + k = omega (arith, is, long) in
    rw (le-leb (length p) n (omega (arith, is, long))) (ap suc (whole_behind ps qs k (n - length p) rest) ∙ moved (length ps) (whole_packets k qs))
  where
    moved : (a b : ℕ) → suc (a + b) ≡ suc a + b
    moved a b = omega arith

pub all_whole : (ps : List (List ℕ)) → whole_packets (length (concat ps)) ps ≡ length ps
all_whole ps =
    ap (whole_packets (length (concat ps))) (sym (append-nil ps)) ∙ whole_behind ps [] 0 (length (concat ps)) (none_behind (length (concat ps))) ∙ sym (none_behind (length ps))
  where
    none_behind : (m : ℕ) → m ≡ m + 0
    none_behind m = omega arith

-- behind the last byte that was taken, none stands
none_within : (qs : List (List ℕ)) → HaveBytes qs → whole_packets 0 qs ≡ 0
none_within [] all = refl
none_within (q ∷ qs) all = rw (lt-leb (length q) 0 all.0) refl

unreached : (ps qs : List (List ℕ)) (n : ℕ) → n ≤ length (concat ps) → HaveBytes qs → whole_packets n (ps ++ qs) ≡ whole_packets n ps
unreached [] qs n le all = let none : n ≡ 0 = omega (arith, le) in rw none (none_within qs all)
unreached (p ∷ ps) qs n le all =
    let long : length (p ++ concat ps) ≡ length p + length (concat ps) = length-append p (concat ps) in
    let rest : n - length p ≤ length (concat ps) = omega (arith, le, long) in
    ap (λ (m : ℕ). cond (leb (length p) n) (suc m) 0) (unreached ps qs (n - length p) rest all)

-- The count of packets of which so many bytes were taken behind a prologue, where further packets are put.
pub count_goes_on : (ps qs : List (List ℕ)) (prologue old new count after : ℕ) (failed : Bool) → HaveBytes qs
    → old ≤ prologue + length (concat ps) → (failed ≡ false → old ≡ prologue + length (concat ps)) → count ≡ whole_packets (old - prologue) ps
    → old ≤ new → after ≡ count + whole_packets (new - old) qs → (failed ≡ true → (new ≡ old) × (after ≡ count))
    → after ≡ whole_packets (new - prologue) (ps ++ qs)
count_goes_on ps qs prologue old new count after true all within whole is grows more silent =
    let here : new ≡ old = (silent refl).0 in
    let rest : new - prologue ≤ length (concat ps) = omega (arith, here, within) in
    (silent refl).1 ∙ is ∙ ap (λ (n : ℕ). whole_packets (n - prologue) ps) (sym here) ∙ sym (unreached ps qs (new - prologue) rest all)
count_goes_on ps qs prologue old new count after false all within whole is grows more silent =
    let every : old - prologue ≡ length (concat ps) = omega (arith, whole refl) in
    let behind : new - prologue ≡ length (concat ps) + (new - old) = omega (arith, whole refl, grows) in
    more ∙ ap (λ (n : ℕ). n + whole_packets (new - old) qs) (is ∙ ap (λ (n : ℕ). whole_packets n ps) every ∙ all_whole ps)
    ∙ sym (whole_behind ps qs (new - old) (new - prologue) behind)

-- ---- in a recording

pub file_length : (f : Format) (prologue : List ℕ) (items : List Item) → length (written_file f prologue items) ≡ length prologue + length (concat (closed_packets f items))
file_length f prologue items = ap (λ (bytes : List ℕ). length bytes) (file_is_packets f prologue items) ∙ length-append prologue (concat (closed_packets f items))

pub no_packets : (f : Format) → closed_packets f [] ≡ []
unfolding closed_packets
no_packets f = refl

pub none_counted : (f : Format) (n : ℕ) → whole_packets n (closed_packets f []) ≡ 0
none_counted f n = ap (whole_packets n) (no_packets f)
