-- How many messages of each channel are chosen, with one packet more.
use Rattle.std.proofs.Common.{◌≡◌, ◌≢◌, ◌⊎◌, inl, inr, ℕ, ◌+◌, ◌<◌, ◌≤◌, ◌^◌, Bool, true, false, cond, eqb, List, [], ◌∷◌, ◌++◌, length, set, get_or, replicate, reverse, refl, sym, ap, ◌∙◌, append_assoc, append-nil, arith}
use Rattle.std.proofs.lemmas.Bool.{cases_eq, eq-eqb, ne_eqb}
use Rattle.std.proofs.lemmas.List.{get_or-replicate, get_or-set_same, get_or-set_other, length-append}
use Rattle.ch11_f1.specs.BodyReading.{Message}
use Rattle.ch11_layout.specs.Stamps.{Recorded, kind_of, recorded}
use Rattle.ch11_layout.specs.declared.stamps.StampKind.{StampKind}
use Rattle.ch11_reader.specs.declared.packet.Packet.{Packet}
use Rattle.ch11_reader.specs.Contents.{total_in}
use Rattle.ch11_reader.specs.Recording.{Found}
use Rattle.ch11_stream.specs.Reading.{IsStep, Reading, last_found}
use Rattle.ch11_stream.proofs.Folding.{one_behind, total_reverse}
use Rattle.bench_select.specs.declared.selection.Selection.{Selection}
use Rattle.bench_select.specs.Selecting.{selects}
use Rattle.bench_compare.specs.Chosen.{chosen_among, chosen_behind, chosen_if, chosen_in, chosen_of}
use Rattle.bench_compare.specs.Counting.{AreCounts}

-- ---- how many there can be

pub fewer : (s : Selection) (kind : StampKind) (n channel : ℕ) (ms : List Message) → length (chosen_among s kind n channel ms) ≤ length ms
fewer s kind n channel [] = omega arith
fewer s kind n channel (m ∷ ms) = by (selects s (n + 1) channel (recorded kind m)) (chosen_among s kind (n + 1) channel ms) (fewer s kind (n + 1) channel ms)
  where
    by : (b : Bool) (xs : List Recorded) → length xs ≤ length ms → length (cond b (recorded kind m ∷ xs) xs) ≤ length (m ∷ ms)
    by true xs h = omega (arith, h)
    by false xs h = omega (arith, h)

few_if : (s : Selection) (b : Bool) (kind : StampKind) (n channel : ℕ) (ms : List Message) → length (chosen_if s b kind n channel ms) ≤ length ms
few_if s true kind n channel ms = fewer s kind n channel ms
few_if s false kind n channel ms = omega arith

few_behind : (s : Selection) (channel n : ℕ) (ps : List Found) → length (chosen_behind s channel n ps) ≤ total_in ps
few_behind s channel n [] = omega arith
few_behind s channel n (p ∷ ps) =
    omega (arith, length-append (chosen_of s channel n p) (chosen_behind s channel (n + length p.messages) ps), few_if s (eqb p.header.channel channel) (kind_of p.header) n channel p.messages, few_behind s channel (n + length p.messages) ps)

-- ---- one packet more

chosen_more : (s : Selection) (channel n : ℕ) (ps : List Found) (q : Found) → chosen_behind s channel n (ps ++ q ∷ []) ≡ chosen_behind s channel n ps ++ chosen_of s channel (n + total_in ps) q
chosen_more s channel n [] q =
    let same : n ≡ n + 0 = omega arith in
    append-nil (chosen_of s channel n q) ∙ ap (λ (k : ℕ). chosen_of s channel k q) same
chosen_more s channel n (p ∷ ps) q =
    let total : (n + length p.messages) + total_in ps ≡ n + total_in (p ∷ ps) = omega arith in
    ap (λ (l : List Recorded). chosen_of s channel n p ++ l) (chosen_more s channel (n + length p.messages) ps q ∙ ap (λ (k : ℕ). chosen_behind s channel (n + length p.messages) ps ++ chosen_of s channel k q) total)
    ∙ sym (append_assoc (chosen_of s channel n p) (chosen_behind s channel (n + length p.messages) ps) (chosen_of s channel (n + total_in (p ∷ ps)) q))

-- how many of a channel there are then
pub count_more : (s : Selection) (channel : ℕ) (before now : Reading) (p : Packet) → IsStep before now p
    → length (chosen_in s channel (reverse now.earlier)) ≡ length (chosen_in s channel (reverse before.earlier)) + length (chosen_of s channel p.before (last_found now p))
count_more s channel before now p step =
    let ps : List Found = reverse before.earlier in
    let q : Found = last_found now p in
    let all : reverse now.earlier ≡ ps ++ q ∷ [] = ap reverse step.entered ∙ one_behind q before.earlier in
    let number : p.before ≡ 0 + total_in ps = omega (arith, ap (λ (x : Packet). x.before) step.listed, total_reverse before.earlier) in
    ap (λ (l : List Found). length (chosen_in s channel l)) all ∙ ap length (chosen_more s channel 0 ps q)
    ∙ length-append (chosen_in s channel ps) (chosen_of s channel (0 + total_in ps) q)
    ∙ ap (λ (k : ℕ). length (chosen_in s channel ps) + length (chosen_of s channel k q)) (sym number)

-- 64 bits count them
pub counts_fit : (s : Selection) (channel : ℕ) (before now : Reading) (p : Packet) → IsStep before now p → length (chosen_in s channel (reverse before.earlier)) + length (chosen_of s channel p.before (last_found now p)) < 2 ^ 64
counts_fit s channel before now p step = omega (arith, count_more s channel before now p step, few_behind s channel 0 (reverse now.earlier), total_reverse now.earlier, step.few)

own_of : (s : Selection) (n : ℕ) (q : Found) → chosen_of s q.header.channel n q ≡ chosen_among s (kind_of q.header) n q.header.channel q.messages
own_of s n q = ap (λ (b : Bool). chosen_if s b (kind_of q.header) n q.header.channel q.messages) (eq-eqb q.header.channel q.header.channel refl)

other_of : (s : Selection) (channel n : ℕ) (q : Found) → eqb q.header.channel channel ≡ false → chosen_of s channel n q ≡ []
other_of s channel n q other = ap (λ (b : Bool). chosen_if s b (kind_of q.header) n channel q.messages) other

module _ (s : Selection) (before now : Reading) (p : Packet) (step : IsStep before now p) (counts after : List ℕ) (count : ℕ) where
  abbrev own : ℕ
  own = p.header.channel

  abbrev so_far : ℕ → ℕ
  so_far channel = length (chosen_in s channel (reverse before.earlier))

  -- the count of the packet
  pub count_is : count ≡ length (chosen_among s (kind_of p.header) p.before own now.given) → count ≡ length (chosen_of s own p.before (last_found now p))
  count_is is = is ∙ sym (ap length (own_of s p.before (last_found now p)))

  by : (channel : ℕ) → channel < 65536 → own < length counts → count ≡ length (chosen_of s own p.before (last_found now p)) → get_or counts own 0 ≡ so_far own → after ≡ set counts own (get_or counts own 0 + count) → AreCounts s (reverse before.earlier) counts
      → (c : (channel ≡ own) ⊎ (channel ≢ own)) → get_or after channel 0 ≡ length (chosen_in s channel (reverse now.earlier))
  by channel small place is here put are (inl same) =
      ap (λ (l : List ℕ). get_or l channel 0) put
      ∙ ap (λ (k : ℕ). get_or (set counts own (get_or counts own 0 + count)) k 0) same
      ∙ get_or-set_same counts own (get_or counts own 0 + count) 0 place
      ∙ ap (λ (k : ℕ). k + count) here
      ∙ ap (λ (k : ℕ). so_far own + k) is
      ∙ sym (count_more s own before now p step)
      ∙ ap (λ (k : ℕ). length (chosen_in s k (reverse now.earlier))) (sym same)
  by channel small place is here put are (inr other) =
      let none : length (chosen_of s channel p.before (last_found now p)) ≡ 0 = ap length (other_of s channel p.before (last_found now p) (ne_eqb own channel (λ e. other (sym e)))) in
      let more = count_more s channel before now p step in
      ap (λ (l : List ℕ). get_or l channel 0) put
      ∙ get_or-set_other counts own channel (get_or counts own 0 + count) 0 other
      ∙ are channel small
      ∙ omega (arith, none, more)

  pub counts_on : own < 65536 → length counts ≡ 65536 → count ≡ length (chosen_among s (kind_of p.header) p.before own now.given)
      → (get_or counts own 0 + count < 2 ^ 64 → after ≡ set counts own (get_or counts own 0 + count)) → AreCounts s (reverse before.earlier) counts → AreCounts s (reverse now.earlier) after
  counts_on low many is put are channel small =
      let here : get_or counts own 0 ≡ so_far own = are own low in
      let size = count_is is in
      let fits : get_or counts own 0 + count < 2 ^ 64 = omega (arith, here, size, counts_fit s own before now p step) in
      by channel small (omega (arith, low, many)) size here (put fits) are (cases_eq channel own)

-- none of no packet
pub none_counted : (s : Selection) (counts : List ℕ) → counts ≡ replicate 65536 0 → AreCounts s [] counts
none_counted s counts is channel small = ap (λ (l : List ℕ). get_or l channel 0) is ∙ get_or-replicate 65536 channel 0 0 small

-- ---- the messages of a packet

pub record IsCounting (s : Selection) (kind : StampKind) (before number channel : ℕ) (all rest : List Message) (count : ℕ) : Type 0 where
  pub counted : number + length rest ≡ before + length all
  pub so_many : count + length (chosen_among s kind number channel rest) ≡ length (chosen_among s kind before channel all)

pub begins : (s : Selection) (kind : StampKind) (before channel : ℕ) (all : List Message) → IsCounting s kind before before channel all all 0
begins s kind before channel all = record { counted = refl; so_many = omega arith }

pub goes_on : (s : Selection) (kind : StampKind) (before number channel : ℕ) (all rest others : List Message) (m : Message) (b : Bool) (count after : ℕ) → IsCounting s kind before number channel all rest count → rest ≡ m ∷ others
    → b ≡ selects s (number + 1) channel (recorded kind m) → after ≡ count + cond b 1 0 → IsCounting s kind before (number + 1) channel all others after
goes_on s kind before number channel all rest others m b count after g is e more = record {
  counted = omega (arith, g.counted, ap length is);
  so_many = omega (arith, g.so_many, more, by b (sym e), ap (λ (l : List Message). length (chosen_among s kind number channel l)) is);
}
  where
    by : (v : Bool) → selects s (number + 1) channel (recorded kind m) ≡ v → length (chosen_among s kind number channel (m ∷ others)) ≡ cond v 1 0 + length (chosen_among s kind (number + 1) channel others)
    by true e = ap (λ (v : Bool). length (cond v (recorded kind m ∷ chosen_among s kind (number + 1) channel others) (chosen_among s kind (number + 1) channel others))) e ∙ omega arith
    by false e = ap (λ (v : Bool). length (cond v (recorded kind m ∷ chosen_among s kind (number + 1) channel others) (chosen_among s kind (number + 1) channel others))) e ∙ omega arith

pub ends : (s : Selection) (kind : StampKind) (before number channel : ℕ) (all rest : List Message) (count : ℕ) → IsCounting s kind before number channel all rest count → rest ≡ [] → count ≡ length (chosen_among s kind before channel all)
ends s kind before number channel all rest count g none = omega (arith, g.so_many, ap (λ (ms : List Message). length (chosen_among s kind number channel ms)) none)

-- there is room for one more
pub room : (s : Selection) (kind : StampKind) (before number channel : ℕ) (all rest : List Message) (count : ℕ) → IsCounting s kind before number channel all rest count → count ≤ length all
room s kind before number channel all rest count g = omega (arith, g.so_many, fewer s kind before channel all)
