-- Packets read one after the other, and those of the whole file.
use Rattle.std.proofs.Common.{◌≡◌, ℕ, ◌+◌, ◌-◌, ◌<◌, List, [], ◌∷◌, ◌++◌, length, drop, reverse, Option, None, Some, Result, Ok, Err, refl, sym, ap, subst, ◌∙◌, append_assoc, arith}
use Rattle.std.proofs.lemmas.List.{append-nil, length-drop}
use Rattle.std.specs.Io.KnownBytes.{IsAtEnd}
use Rattle.ch11_header.specs.declared.header.Header.{Header}
use Rattle.ch11_reader.specs.declared.error.PacketFault.{PacketFault}
use Rattle.ch11_reader.specs.declared.error.Refusal.{Refusal}
use Rattle.ch11_reader.specs.declared.packet.Packet.{Packet}
use Rattle.ch11_reader.specs.Recording.{Found, located, packet_at, packets_in}
use Rattle.ch11_reader.specs.Listing.{listing_behind, listing}
use Rattle.ch11_reader.proofs.Joined.{least_of}
use Rattle.ch11_reader.proofs.Loop.{Going, begins, ends, goes_on, in_order, next_found, stops}
use Rattle.ch11_stream.specs.declared.fault.StreamFault.TheVariants.{Refused}
use Rattle.ch11_stream.specs.Reading.{IsEnd, IsPacketRead, IsStep, IsReadingStopped, Reading, at_start, last_found}
use Rattle.ch11_stream.specs.Whole.{Steps}

-- a reading of a file that is known, somewhere in it
pub record IsAmid (file : List ℕ) (now : Reading) : Type 0 where
  pub rest : List ℕ
  pub left : now.left ≡ Some rest
  pub place : now.offset ≡ length file - length rest
  pub sound : now.fault ≡ None
  pub going : Going file rest now.earlier

pub amid_start : (file : List ℕ) → IsAmid file (at_start (Some file))
amid_start file = record { rest = file; left = refl; place = omega arith; sound = refl; going = begins file }

-- the packet that was read is the next one of the file
found_next : (file rest : List ℕ) (before now : Reading) (p : Packet) → before.offset ≡ length file - length rest → IsStep before now p → IsPacketRead rest now p → last_found now p ≡ next_found file rest p.header
found_next file rest before now p place s r = rw (s.place, place, r.messages) refl

pub amid_on : (file : List ℕ) (before now : Reading) (p : Packet) → IsStep before now p → IsAmid file before → IsAmid file now
amid_on file before now p s a =
    let r = s.read a.rest a.left in
    let h = p.header in
    let bounds = least_of a.rest h r.packet in
    let on = goes_on file a.rest before.earlier h r.packet bounds.0 bounds.1 a.going in
    record {
      rest = drop h.packet_length a.rest;
      left = r.left;
      place = omega (arith, s.moved, a.place, a.going.shorter, bounds.1, length-drop h.packet_length a.rest);
      sound = s.sound.1;
      going = rw (s.entered, found_next file a.rest before now p a.place s r) on;
    }

pub known_end : (left : Option (List ℕ)) (rest : List ℕ) → left ≡ Some rest → IsAtEnd left → rest ≡ []
known_end None rest is end = absurd cc
known_end (Some xs) rest is end = let same : xs ≡ rest = cc in sym same ∙ end

-- at the end of the file
pub amid_end : (file : List ℕ) (now last : Reading) → IsEnd now last → IsAmid file now → packets_in file ≡ Ok (in_order now.earlier [])
amid_end file now last e a = ends file a.rest now.earlier (ap length (known_end now.left a.rest a.left e.ended)) a.going

same_fault : (offset : ℕ) (r : Refusal) (read : Result Header PacketFault) (f : PacketFault) → located offset (Err f) ≡ Err r → record { offset = offset; fault = f } ≡ r
same_fault offset r read f is = cc

refused_at : (file rest : List ℕ) (earlier : List Found) (offset : ℕ) (r : Refusal) (read : Result Header PacketFault) → packet_at rest ≡ read → offset ≡ length file - length rest → 0 < length rest → located offset read ≡ Err r
    → Going file rest earlier → packets_in file ≡ Err r
refused_at file rest earlier offset r (Ok h) at place some is g = absurd cc
refused_at file rest earlier offset r (Err f) at place some is g =
    let same : record { offset = offset; fault = f } ≡ r = cc in
    stops file rest earlier f some at g ∙ ap Err (rw (← place) same)

-- at the first fault
pub amid_stop : (file : List ℕ) (now last : Reading) (r : Refusal) → IsReadingStopped now last (Refused r) → IsAmid file now → packets_in file ≡ Err r
amid_stop file now last r s a =
    let f = s.first a.sound a.rest a.left in
    refused_at file a.rest now.earlier now.offset r (packet_at a.rest) refl a.place f.0 f.1 a.going

-- ---- all of them

pub record IsListed (entries : List Packet) (earlier : List Found) : Type 0 where
  pub all : (qs : List Found) → listing (in_order earlier qs) ≡ entries ++ listing_behind earlier qs

pub one_listed : (entries : List Packet) (before now : Reading) (p : Packet) → IsStep before now p → IsListed entries before.earlier → IsListed (entries ++ p ∷ []) now.earlier
one_listed entries before now p s l = rw (s.entered) record {
  all = λ qs.
      let q = last_found now p in
      l.all (q ∷ qs) ∙ ap (λ (x : Packet). entries ++ (x ∷ listing_behind (q ∷ before.earlier) qs)) (sym s.listed) ∙ sym (append_assoc entries (p ∷ []) (listing_behind (q ∷ before.earlier) qs));
}

record IsSoFar (file : List ℕ) (entries : List Packet) (now : Reading) : Type 0 where
  amid : IsAmid file now
  listed : IsListed entries now.earlier

so_far : (file : List ℕ) (entries ps : List Packet) (before now : Reading) → Steps before ps now → IsSoFar file entries before → IsSoFar file (entries ++ ps) now
so_far file entries [] before now s f = rw (append-nil entries) (subst (IsSoFar file entries) s f)
so_far file entries (p ∷ ps) before now s f =
    let one : IsSoFar file (entries ++ p ∷ []) s.0 = record { amid = amid_on file before s.0 p s.1 f.amid; listed = one_listed entries before s.0 p s.1 f.listed } in
    rw append_assoc at (so_far file (entries ++ p ∷ []) ps s.0 now s.2 one)

pub all_read : (file : List ℕ) (ps : List Packet) (now last : Reading) → Steps (at_start (Some file)) ps now
    → (IsEnd now last → (packets_in file ≡ Ok (reverse now.earlier)) × (ps ≡ listing (reverse now.earlier)))
    × ((r : Refusal) → IsReadingStopped now last (Refused r) → packets_in file ≡ Err r)
all_read file ps now last s =
    let start : IsSoFar file [] (at_start (Some file)) = record { amid = amid_start file; listed = record { all = λ qs. refl } } in
    let f : IsSoFar file ps now = so_far file [] ps (at_start (Some file)) now s start in
    let order : in_order now.earlier [] ≡ reverse now.earlier = refl in (
      λ e. (amid_end file now last e f.amid ∙ ap Ok order, sym (ap listing (sym order) ∙ f.listed.all [] ∙ append-nil ps)),
      λ r stop. amid_stop file now last r stop f.amid,
    )
