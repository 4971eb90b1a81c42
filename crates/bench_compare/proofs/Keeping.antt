-- Chosen messages that are kept, one after the other.
use Rattle.std.proofs.Common.{◌≡◌, ℕ, ◌+◌, Bool, true, false, cond, eqb, List, [], ◌∷◌, ◌++◌, length, Ok, refl, sym, ap, ◌∙◌, append_assoc, append-nil, arith}
use Rattle.std.proofs.lemmas.Bool.{eq-eqb, eqb-true}
use Rattle.ch11_f1.specs.BodyReading.{Message}
use Rattle.ch11_layout.specs.Stamps.{Recorded, recorded}
use Rattle.ch11_layout.specs.declared.stamps.StampKind.{StampKind}
use Rattle.ch11_reader.specs.declared.packet.Packet.{Packet}
use Rattle.ch11_reader.specs.Contents.{total_in}
use Rattle.ch11_reader.specs.Recording.{Found, packets_in}
use Rattle.ch11_stream.specs.Reading.{IsEnd, IsStep, Reading, last_found}
use Rattle.bench_select.specs.declared.selection.Selection.{Selection}
use Rattle.bench_select.specs.Selecting.{selects}
use Rattle.bench_compare.specs.Chosen.{chosen_among, chosen_of, one_if}
use Rattle.bench_compare.specs.Passes.{AreKept, IsUnderWay, Passing, pass_to_come, to_come}
use Rattle.bench_compare.proofs.Coming.{amid_of, behind_all, coming_end, coming_on}

pub one_more : (s : Selection) (kind : StampKind) (number channel : ℕ) (m : Message) (others : List Message) (b : Bool) → b ≡ selects s (number + 1) channel (recorded kind m)
    → chosen_among s kind number channel (m ∷ others) ≡ one_if b (recorded kind m) ++ chosen_among s kind (number + 1) channel others
one_more s kind number channel m others b e = ap (λ (v : Bool). cond v (recorded kind m ∷ chosen_among s kind (number + 1) channel others) (chosen_among s kind (number + 1) channel others)) (sym e)
    ∙ by b
  where
    by : (v : Bool) → cond v (recorded kind m ∷ chosen_among s kind (number + 1) channel others) (chosen_among s kind (number + 1) channel others) ≡ one_if v (recorded kind m) ++ chosen_among s kind (number + 1) channel others
    by true = refl
    by false = refl

pub record IsKeeping (s : Selection) (kind : StampKind) (start items : List Recorded) (before number channel : ℕ) (all rest : List Message) : Type 0 where
  pub counted : number + length rest ≡ before + length all
  pub same : items ++ chosen_among s kind number channel rest ≡ start ++ chosen_among s kind before channel all

pub begins : (s : Selection) (kind : StampKind) (start : List Recorded) (before channel : ℕ) (all : List Message) → IsKeeping s kind start start before before channel all all
begins s kind start before channel all = record { counted = refl; same = refl }

pub goes_on : (s : Selection) (kind : StampKind) (start items after : List Recorded) (before number channel : ℕ) (all rest others : List Message) (m : Message) (b : Bool)
    → IsKeeping s kind start items before number channel all rest → rest ≡ m ∷ others → b ≡ selects s (number + 1) channel (recorded kind m) → after ≡ items ++ one_if b (recorded kind m)
    → IsKeeping s kind start after before (number + 1) channel all others
goes_on s kind start items after before number channel all rest others m b k is e more = record {
  counted = omega (arith, k.counted, ap length is);
  same = ap (λ (l : List Recorded). l ++ chosen_among s kind (number + 1) channel others) more
      ∙ append_assoc items (one_if b (recorded kind m)) (chosen_among s kind (number + 1) channel others)
      ∙ ap (λ (l : List Recorded). items ++ l) (sym (one_more s kind number channel m others b e) ∙ ap (chosen_among s kind number channel) (sym is))
      ∙ k.same;
}

pub ends : (s : Selection) (kind : StampKind) (start items : List Recorded) (before number channel : ℕ) (all rest : List Message) → IsKeeping s kind start items before number channel all rest → rest ≡ [] → items ≡ start ++ chosen_among s kind before channel all
ends s kind start items before number channel all rest k none = sym (append-nil items) ∙ ap (λ (ms : List Message). items ++ chosen_among s kind number channel ms) (sym none) ∙ k.same

-- ---- a pass

-- a packet was read, and its messages are kept
pub kept_on : (s : Selection) (channel : ℕ) (file : List ℕ) (ps : List Found) (before now : Passing) (p : Packet) → IsStep before.reading now.reading p → packets_in file ≡ Ok ps → IsUnderWay file before.reading
    → now.kept ≡ before.kept ++ chosen_of s channel p.before (last_found now.reading p) → pass_to_come s channel ps before ≡ pass_to_come s channel ps now
kept_on s channel file ps before now p step read way more =
    let here : chosen_of s channel (total_in before.reading.earlier) (last_found now.reading p) ≡ chosen_of s channel p.before (last_found now.reading p) = ap (λ (n : ℕ). chosen_of s channel n (last_found now.reading p)) (sym (behind_all before.reading now.reading p step)) in
    ap (λ (l : List Recorded). before.kept ++ l) (coming_on s channel file before.reading now.reading p ps step (amid_of file before.reading way) read ∙ ap (λ (l : List Recorded). l ++ to_come s channel ps now.reading) here)
    ∙ sym (append_assoc before.kept (chosen_of s channel p.before (last_found now.reading p)) (to_come s channel ps now.reading))
    ∙ ap (λ (l : List Recorded). l ++ to_come s channel ps now.reading) (sym more)

no_items : {A : Type 0} (xs : List A) → length xs ≡ 0 → xs ≡ []
no_items [] none = refl
no_items (x ∷ xs) none = absurd (omega (arith, none))

-- some are kept already
pub kept_some : (s : Selection) (channel : ℕ) (file : List ℕ) (ps : List Found) (before now : Passing) (n : ℕ) → n ≡ length now.kept → false ≡ eqb n 0 → IsUnderWay file now.reading → pass_to_come s channel ps before ≡ pass_to_come s channel ps now
    → AreKept s channel file ps before now
kept_some s channel file ps before now n long test way same = record {
  some = λ m others is. (way, same);
  none = λ none.
      let zero : n ≡ 0 = omega (arith, long, ap length none) in
      let clash : false ≡ true = test ∙ eq-eqb n 0 zero in
      absurd cc;
}

-- none is kept, and none is to come
pub kept_end : (s : Selection) (channel : ℕ) (file : List ℕ) (ps : List Found) (before : Passing) (kept : List Recorded) (now last : Reading) (n : ℕ) → n ≡ length kept → true ≡ eqb n 0 → IsEnd now last → packets_in file ≡ Ok ps → IsUnderWay file now
    → pass_to_come s channel ps before ≡ pass_to_come s channel ps (record { reading = now; kept = kept }) → AreKept s channel file ps before (record { reading = last; kept = kept })
kept_end s channel file ps before kept now last n long test e read way same =
    let zero : n ≡ 0 = eqb-true n 0 (sym test) in
    let empty : kept ≡ [] = no_items kept (omega (arith, long, zero)) in
    record {
      some = λ m others is. let clash : m ∷ others ≡ [] = sym is ∙ empty in absurd cc;
      none = λ is. same ∙ ap (λ (l : List Recorded). l ++ to_come s channel ps now) empty ∙ coming_end s channel file now last ps e (amid_of file now way) read;
    }
