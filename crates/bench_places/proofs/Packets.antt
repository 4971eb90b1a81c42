-- The messages of the packets, packet by packet.
use Rattle.std.proofs.Common.{◌≡◌, ℕ, suc, ◌+◌, ◌-◌, ◌<◌, ◌≤◌, List, [], ◌∷◌, ◌++◌, length, drop, map, Some, None, get_or, refl, sym, ap, ◌∙◌, arith}
use Rattle.std.specs.Prelude.{slice_get}
use Rattle.std.proofs.lemmas.List.{drop_all, length-append, length-drop, length-map}
use Rattle.ch11_f1.specs.BodyReading.{Message}
use Rattle.ch11_layout.specs.Stamps.{kind_of, recorded}
use Rattle.ch11_layout.specs.declared.stamps.StampKind.{StampKind}
use Rattle.ch11_header.specs.declared.header.Header.{Header}
use Rattle.ch11_reader.specs.declared.packet.Packet.{Packet}
use Rattle.ch11_reader.specs.Recording.{Found}
use Rattle.ch11_reader.specs.Contents.{total_in}
use Rattle.bench_select.specs.Viewed.{viewed_of, viewed_in, Viewed}
use Rattle.ch11_reader.specs.Listing.{listing}
use Rattle.bench_dump.proofs.Packets.{no_packet, at_place, same_count}
use Rattle.bench_places.specs.Places.{message_of_number, place_before, place_of}
use Rattle.bench_places.specs.declared.sought.Sought.{Sought}
use Rattle.bench_places.proofs.Walking.{none_left, first_place, no_message}

-- the messages of the next packet, whose stamps are of this kind, and those behind it
pub next_packet : (ps : List Found) (entries : List Packet) (i : ℕ) (ms : List Message) (kind : StampKind) → entries ≡ listing ps → i < length entries
    → ((p : Found) → slice_get ps i ≡ Some p → ms ≡ p.messages) → kind ≡ kind_of (get_or entries i no_packet).header
    → map (λ (m : Message). ((get_or entries i no_packet).header.channel, recorded kind m)) ms ++ viewed_in (drop (i + 1) ps) ≡ viewed_in (drop i ps)
next_packet ps entries i ms kind listed within messages is =
    let at = at_place ps entries i no_packet listed within in
    let e = get_or entries i no_packet in
    let next : i + 1 ≡ suc i = omega arith in
    let here : map (λ (m : Message). (e.header.channel, recorded kind m)) ms ≡ viewed_of at.packet =
    ap (λ (k : StampKind). map (λ (m : Message). (e.header.channel, recorded k m)) ms) is
    ∙ ap (λ (h : Header). map (λ (m : Message). (h.channel, recorded (kind_of h) m)) ms) at.header
    ∙ ap (map (λ (m : Message). (at.packet.header.channel, recorded (kind_of at.packet.header) m))) (messages at.packet at.there) in
    ap (λ (hs : List Viewed). hs ++ viewed_in (drop (i + 1) ps)) here
    ∙ ap (λ (k : ℕ). viewed_of at.packet ++ viewed_in (drop k ps)) next
    ∙ sym (ap viewed_in at.split)

-- no packet is left
pub no_packets : (ps : List Found) (entries : List Packet) (i : ℕ) → entries ≡ listing ps → length entries ≤ i → viewed_in (drop i ps) ≡ []
no_packets ps entries i listed past = ap viewed_in (drop_all i ps (omega (arith, same_count ps entries listed)))

pub is_packet : (ps : List Found) (entries : List Packet) (i : ℕ) → entries ≡ listing ps → i < length entries → i < length ps
is_packet ps entries i listed within = omega (arith, same_count ps entries listed)

viewed_count : (p : Found) → length (viewed_of p) ≡ length p.messages
viewed_count p = length-map p.messages (λ (m : Message). (p.header.channel, recorded (kind_of p.header) m))

-- as many messages as the packets hold
viewed_total : (ps : List Found) → length (viewed_in ps) ≡ total_in ps
viewed_total [] = refl
viewed_total (p ∷ ps) = omega (arith, length-append (viewed_of p) (viewed_in ps), viewed_count p, viewed_total ps)

-- those past a place
pub few_left : (ps : List Found) (from : ℕ) (rest : List Viewed) → rest ≡ drop from (viewed_in ps) → from ≤ total_in ps → from + length rest ≡ total_in ps
few_left ps from rest is within = omega (arith, ap length is, length-drop from (viewed_in ps), viewed_total ps)

-- none are past the end
pub none_past : (sought : Sought) (ps : List Found) (from n : ℕ) → total_in ps < from → None ≡ place_of sought from n ps
none_past sought ps from n past =
    let none : drop from (viewed_in ps) ≡ [] = drop_all from (viewed_in ps) (omega (arith, viewed_total ps)) in
    rw none (sym (none_left n))

pub no_message_past : (ps : List Found) (number : ℕ) → total_in ps < number → None ≡ message_of_number number (viewed_in ps)
no_message_past ps number past = sym (no_message (viewed_in ps) number (drop_all (number - 1) (viewed_in ps) (omega (arith, past, viewed_total ps))))

-- the first message that is sought
pub first_some : (sought : Sought) (ps : List Found) (place : ℕ) → Some place ≡ place_of sought 0 1 ps → place - 1 ≡ place_before sought ps
first_some sought ps place is = omega (arith, first_place sought 0 (viewed_in ps) (Some place) is)

pub first_least : (sought : Sought) (ps : List Found) (place : ℕ) → Some place ≡ place_of sought 0 1 ps → 1 ≤ place
first_least sought ps place is = omega (arith, first_place sought 0 (viewed_in ps) (Some place) is)

-- there is none
pub first_none : (sought : Sought) (ps : List Found) (total : ℕ) → None ≡ place_of sought 0 1 ps → total ≡ total_in ps → total ≡ place_before sought ps
first_none sought ps total is all = all ∙ sym (viewed_total ps) ∙ first_place sought 0 (viewed_in ps) None is
