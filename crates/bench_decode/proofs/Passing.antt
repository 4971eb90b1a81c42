-- The messages of a packet, and the packets, one after the other, for what is said of the messages so far.
use Rattle.std.proofs.Common.{◌≡◌, ℕ, zero, suc, ◌+◌, List, [], ◌∷◌, ◌++◌, length, take, refl, ap, sym, ◌∙◌, subst, arith, append_assoc, append-nil, reverse, add-one, length-append}
use Rattle.std.specs.Prelude.{Some, slice_get, map}
use Rattle.std.proofs.lemmas.List.{reverse-append, map-append, length-map, length-reverse}
use Rattle.std.proofs.lemmas.Grind.{flat_map-append}
use Rattle.ch11_f1.specs.BodyReading.{Message}
use Rattle.ch11_layout.specs.Stamps.{kind_of, recorded}
use Rattle.ch11_layout.specs.declared.stamps.StampKind.{StampKind}
use Rattle.ch11_reader.specs.declared.packet.Packet.{Packet}
use Rattle.ch11_reader.specs.Recording.{Found}
use Rattle.ch11_reader.specs.Contents.{total_in}
use Rattle.bench_select.specs.Viewed.{viewed_of, viewed_in, Viewed}
use Rattle.bench_dump.proofs.Packets.{IsAt}

abbrev pub with_channel : StampKind → ℕ → Message → Viewed
with_channel kind channel = λ (m : Message). (channel, recorded kind m)

-- the messages of a packet so far are passed, behind a history
pub record IsPassing (holds : List Viewed → Type 0) (kind : StampKind) (channel before number : ℕ) (all rest : List Message) (history : List Viewed) : Type 0 where
  pub passed : List Message
  pub split : passed ++ rest ≡ all
  pub counted : number ≡ before + length passed
  pub held : holds (reverse (map (with_channel kind channel) passed) ++ history)

pub passing-none : (holds : List Viewed → Type 0) (kind : StampKind) (channel before : ℕ) (all : List Message) (history : List Viewed) → holds history → IsPassing holds kind channel before before all all history
passing-none holds kind channel before all history are = record { passed = []; split = refl; counted = omega arith; held = are }

length-history : (kind : StampKind) (channel : ℕ) (passed : List Message) (history : List Viewed) → length (reverse (map (with_channel kind channel) passed) ++ history) ≡ length passed + length history
length-history kind channel passed history =
    omega (arith, length-append (reverse (map (with_channel kind channel) passed)) history, length-reverse (map (with_channel kind channel) passed), length-map passed (with_channel kind channel))

one_more : (kind : StampKind) (channel : ℕ) (passed : List Message) (m : Message) (history : List Viewed)
    → reverse (map (with_channel kind channel) (passed ++ m ∷ [])) ++ history ≡ (channel, recorded kind m) ∷ (reverse (map (with_channel kind channel) passed) ++ history)
one_more kind channel passed m history =
    ap (λ (hs : List Viewed). reverse hs ++ history) (map-append (with_channel kind channel) passed (m ∷ []))
    ∙ ap (λ (hs : List Viewed). hs ++ history) (reverse-append (map (with_channel kind channel) passed) ((channel, recorded kind m) ∷ []))

pub passing-more : (holds next : List Viewed → Type 0) (kind : StampKind) (channel before number : ℕ) (all rest others : List Message) (m : Message) (history : List Viewed) → IsPassing holds kind channel before number all rest history → rest ≡ m ∷ others
    → before ≡ length history → ((hs : List Viewed) → holds hs → number + 1 ≡ length hs + 1 → next ((channel, recorded kind m) ∷ hs)) → IsPassing next kind channel before (number + 1) all others history
passing-more holds next kind channel before number all rest others m history p is from step = record {
  passed = p.passed ++ m ∷ [];
  split = append_assoc p.passed (m ∷ []) others ∙ ap (λ (ms : List Message). p.passed ++ ms) (sym is) ∙ p.split;
  counted = omega (arith, p.counted, length-append p.passed (m ∷ []));
  held = subst next (sym (one_more kind channel p.passed m history))
      (step (reverse (map (with_channel kind channel) p.passed) ++ history) p.held (omega (arith, p.counted, from, length-history kind channel p.passed history)));
}

pub passing-all : (holds : List Viewed → Type 0) (kind : StampKind) (channel before number : ℕ) (all rest : List Message) (history : List Viewed) → IsPassing holds kind channel before number all rest history → rest ≡ []
    → holds (reverse (map (with_channel kind channel) all) ++ history)
passing-all holds kind channel before number all rest history p none =
    subst (λ (ms : List Message). holds (reverse (map (with_channel kind channel) ms) ++ history))
    (sym (append-nil p.passed) ∙ ap (λ (ms : List Message). p.passed ++ ms) (sym none) ∙ p.split) p.held

take_more : {X : Type 0} (xs : List X) (k : ℕ) (x : X) → slice_get xs k ≡ Some x → take (suc k) xs ≡ take k xs ++ x ∷ []
take_more [] k x is = absurd cc
take_more (y ∷ ys) zero x is = let same : y ≡ x = cc in rw same refl
take_more (y ∷ ys) (suc k) x is = rw (take_more ys k x is) refl

length-viewed : (ps : List Found) → length (viewed_in ps) ≡ total_in ps
length-viewed [] = refl
length-viewed (p ∷ ps) = omega (arith, length-append (viewed_of p) (viewed_in ps), length-map p.messages (with_channel (kind_of p.header) p.header.channel), length-viewed ps)

-- so many messages are behind
pub before_packet : (ps : List Found) (place : ℕ) (e : Packet) → IsAt 0 ps place e → e.before ≡ length (reverse (viewed_in (take place ps)))
before_packet ps place e at = omega (arith, at.before, length-reverse (viewed_in (take place ps)), length-viewed (take place ps))

pub packets-more : (holds : List Viewed → Type 0) (ps : List Found) (place : ℕ) (e : Packet) → (at : IsAt 0 ps place e)
    → holds (reverse (map (with_channel (kind_of e.header) e.header.channel) at.packet.messages) ++ reverse (viewed_in (take place ps)))
    → holds (reverse (viewed_in (take (place + 1) ps)))
packets-more holds ps place e at are = subst holds (sym same) are
  where
    taken : take (place + 1) ps ≡ take place ps ++ at.packet ∷ []
    taken = rw add-one (take_more ps place at.packet at.there)

    heard : viewed_in (take (place + 1) ps) ≡ viewed_in (take place ps) ++ viewed_of at.packet
    heard = ap viewed_in taken ∙ flat_map-append viewed_of (take place ps) (at.packet ∷ []) ∙ ap (λ (hs : List Viewed). viewed_in (take place ps) ++ hs) (append-nil (viewed_of at.packet))

    same : reverse (viewed_in (take (place + 1) ps)) ≡ reverse (map (with_channel (kind_of e.header) e.header.channel) at.packet.messages) ++ reverse (viewed_in (take place ps))
    same = rw at.header (ap reverse heard ∙ reverse-append (viewed_in (take place ps)) (viewed_of at.packet))
