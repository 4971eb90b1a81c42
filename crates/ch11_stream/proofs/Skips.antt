-- Stretches read one after the other, and those of the whole file.
use Rattle.std.proofs.Common.{◌≡◌, ℕ, zero, suc, ◌-◌, ◌≤◌, List, [], ◌∷◌, length, drop, Some, refl, sym, ap, ◌∙◌, arith}
use Rattle.std.proofs.lemmas.List.{length-drop}
use Rattle.ch11_reader.specs.declared.packet.Packet.{Packet}
use Rattle.ch11_reader.specs.declared.skip.Skip.{Skip}
use Rattle.ch11_reader.specs.Recording.{Found}
use Rattle.ch11_reader.specs.Skipping.{Stretch, Read, Skipped, packets_among, stretches_from, stretches_in}
use Rattle.ch11_reader.proofs.Joined.{least_of}
use Rattle.ch11_reader.proofs.Loop.{next_found}
use Rattle.ch11_reader.proofs.Stretches.{IsUnderWay, bytes_skipped, few_before, in_turn, packet_read, sets_out, skip_next}
use Rattle.ch11_stream.specs.Reading.{IsEnd, IsPacketRead, IsStep, Reading, at_start, last_found}
use Rattle.ch11_stream.specs.Stretches.{IsSkip}
use Rattle.ch11_stream.proofs.Readings.{known_end}

-- a reading of a file that is known, somewhere in it, and its stretches so far, newest first
pub record IsBetween (file : List ℕ) (now : Reading) (earlier : List Stretch) : Type 0 where
  pub rest : List ℕ
  pub left : now.left ≡ Some rest
  pub place : now.offset ≡ length file - length rest
  pub shorter : length rest ≤ length file
  pub going : IsUnderWay file rest earlier
  pub packets : packets_among earlier ≡ now.earlier

pub between_start : (file : List ℕ) → IsBetween file (at_start (Some file)) []
between_start file = record { rest = file; left = refl; place = omega arith; shorter = omega arith; going = sets_out file; packets = refl }

-- the packet that was read is the next one of the file
found_next : (file rest : List ℕ) (before now : Reading) (p : Packet) → before.offset ≡ length file - length rest → IsStep before now p → IsPacketRead rest now p → last_found now p ≡ next_found file rest p.header
found_next file rest before now p place s r = rw (s.place, place, r.messages) refl

pub between_sound : (file : List ℕ) (before now : Reading) (earlier : List Stretch) (p : Packet) → IsStep before now p → IsBetween file before earlier → IsBetween file now (Read (last_found now p) ∷ earlier)
between_sound file before now earlier p s a =
    let r = s.read a.rest a.left in
    let h = p.header in
    let bounds = least_of a.rest h r.packet in
    record {
      rest = drop h.packet_length a.rest;
      left = r.left;
      place = omega (arith, s.moved, a.place, a.shorter, bounds.1, length-drop h.packet_length a.rest);
      shorter = omega (arith, a.shorter, length-drop h.packet_length a.rest);
      going = rw (found_next file a.rest before now p a.place s r) (packet_read file a.rest earlier h r.packet bounds.0 bounds.1 a.shorter a.going);
      packets = ap (λ (ps : List Found). last_found now p ∷ ps) a.packets ∙ sym s.entered;
    }

-- the bytes that were skipped are the next ones of the file
skipped_next : (file rest : List ℕ) (before now : Reading) (s : Skip) → before.offset ≡ length file - length rest → (k : IsSkip before now s) → before.left ≡ Some rest → s ≡ skip_next file rest s.fault
skipped_next file rest before now s place k left =
    let offset : length file - length rest ≡ s.offset = sym (k.place ∙ place) in
    rw (offset, ← (k.skipped rest left).size) refl

pub between_skipped : (file : List ℕ) (before now : Reading) (earlier : List Stretch) (s : Skip) → IsSkip before now s → IsBetween file before earlier → IsBetween file now (Skipped s ∷ earlier)
between_skipped file before now earlier s k a =
    let r = k.skipped a.rest a.left in
    let few = few_before a.rest in
    record {
      rest = drop s.length a.rest;
      left = r.left;
      place = omega (arith, k.moved, a.place, a.shorter, few, r.size, length-drop s.length a.rest);
      shorter = omega (arith, a.shorter, length-drop s.length a.rest);
      going = rw (skipped_next file a.rest before now s a.place k a.left) (bytes_skipped file a.rest earlier s.fault r.fault (omega (arith, k.some, r.size, few)) a.shorter a.going);
      packets = a.packets ∙ sym k.same;
    }

all_done : (file rest : List ℕ) (earlier : List Stretch) → rest ≡ [] → IsUnderWay file rest earlier → stretches_in file ≡ in_turn earlier []
unfolding stretches_from
all_done file (b ∷ bs) earlier none g = absurd cc
all_done file [] earlier none g = go g.most g.so_far
  where
    go : (most : ℕ) → in_turn earlier (stretches_from most (length file - 0) []) ≡ stretches_in file → stretches_in file ≡ in_turn earlier []
    go zero so_far = sym so_far
    go (suc most) so_far = sym so_far

-- at the end all stretches of the file were read
pub between_end : (file : List ℕ) (now last : Reading) (earlier : List Stretch) → IsEnd now last → IsBetween file now earlier → stretches_in file ≡ in_turn earlier []
between_end file now last earlier e a = all_done file a.rest earlier (known_end now.left a.rest a.left e.ended) a.going
