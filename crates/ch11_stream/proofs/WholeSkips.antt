-- The stretches of a reading from the start of a file to its end.
use Rattle.std.proofs.Common.{◌≡◌, ℕ, List, [], ◌∷◌, ◌++◌, Some, refl, sym, ap, subst, ◌∙◌, append_assoc}
use Rattle.std.proofs.lemmas.List.{append-nil}
use Rattle.ch11_reader.specs.declared.packet.Packet.{Packet}
use Rattle.ch11_reader.specs.declared.skip.Skip.{Skip}
use Rattle.ch11_reader.specs.Recording.{Found}
use Rattle.ch11_reader.specs.Listing.{listing}
use Rattle.ch11_reader.specs.Skipping as reader
use Rattle.ch11_reader.proofs.Loop.{in_order}
use Rattle.ch11_reader.proofs.Stretches.{in_turn}
use Rattle.ch11_stream.specs.declared.stretch.Stretch.{Stretch}
use Rattle.ch11_stream.specs.declared.stretch.Stretch.TheVariants.{Sound, Skipped}
use Rattle.ch11_stream.specs.Reading.{IsEnd, Reading, at_start, last_found}
use Rattle.ch11_stream.specs.WholeStretches.{ReadsStretches, skipped_among, sound_among}
use Rattle.ch11_stream.proofs.Readings.{IsListed, one_listed}
use Rattle.ch11_stream.proofs.Skips.{IsBetween, between_end, between_skipped, between_sound, between_start}

-- the packets and the skips so far
record IsGiven (file : List ℕ) (entries : List Packet) (skips : List Skip) (now : Reading) : Type 0 where
  earlier : List reader.Stretch
  between : IsBetween file now earlier
  listed : IsListed entries now.earlier
  skipped : (others : List reader.Stretch) → reader.skips_among (in_turn earlier others) ≡ skips ++ reader.skips_among others

given_on : (file : List ℕ) (entries : List Packet) (skips : List Skip) (ss : List Stretch) (before now : Reading) → ReadsStretches before ss now → IsGiven file entries skips before
    → IsGiven file (entries ++ sound_among ss) (skips ++ skipped_among ss) now
given_on file entries skips [] before now r g = rw (append-nil entries, append-nil skips) (subst (IsGiven file entries skips) r g)
given_on file entries skips (Sound p ∷ ss) before now r g =
    let one : IsGiven file (entries ++ p ∷ []) skips r.0 = record {
      earlier = reader.Read (last_found r.0 p) ∷ g.earlier;
      between = between_sound file before r.0 g.earlier p r.1 g.between;
      listed = one_listed entries before r.0 p r.1 g.listed;
      skipped = λ others. g.skipped (reader.Read (last_found r.0 p) ∷ others);
    } in
    rw append_assoc at (given_on file (entries ++ p ∷ []) skips ss r.0 now r.2 one)
given_on file entries skips (Skipped s ∷ ss) before now r g =
    let one : IsGiven file entries (skips ++ s ∷ []) r.0 = record {
      earlier = reader.Skipped s ∷ g.earlier;
      between = between_skipped file before r.0 g.earlier s r.1 g.between;
      listed = rw (r.1.same) g.listed;
      skipped = λ others. g.skipped (reader.Skipped s ∷ others) ∙ sym (append_assoc skips (s ∷ []) (reader.skips_among others));
    } in
    rw append_assoc at (given_on file entries (skips ++ s ∷ []) ss r.0 now r.2 one)

packets_in_turn : (earlier others : List reader.Stretch) → reader.packets_among (in_turn earlier others) ≡ in_order (reader.packets_among earlier) (reader.packets_among others)
packets_in_turn [] others = refl
packets_in_turn (reader.Read p ∷ earlier) others = packets_in_turn earlier (reader.Read p ∷ others)
packets_in_turn (reader.Skipped s ∷ earlier) others = packets_in_turn earlier (reader.Skipped s ∷ others)

pub all_given : (file : List ℕ) (ss : List Stretch) (now last : Reading) → ReadsStretches (at_start (Some file)) ss now → IsEnd now last → (sound_among ss ≡ listing (reader.packets_read file)) × (skipped_among ss ≡ reader.skips_in file)
all_given file ss now last r e =
    let start : IsGiven file [] [] (at_start (Some file)) = record { earlier = []; between = between_start file; listed = record { all = λ qs. refl }; skipped = λ others. refl } in
    let g = given_on file [] [] ss (at_start (Some file)) now r start in
    let whole = between_end file now last g.earlier e g.between in
    let packets : reader.packets_read file ≡ in_order now.earlier [] =
    ap reader.packets_among whole ∙ packets_in_turn g.earlier [] ∙ ap (λ (ps : List Found). in_order ps []) g.between.packets in (
      sym (ap listing packets ∙ g.listed.all [] ∙ append-nil (sound_among ss)),
      sym (ap reader.skips_among whole ∙ g.skipped [] ∙ append-nil (skipped_among ss)),
    )
