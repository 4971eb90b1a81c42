-- Where a sound byte stands in its file, and the skips so far.
use Rattle.std.proofs.Common.{◌≡◌, ℕ, List, [], ◌∷◌, ◌++◌, Some, refl, sym, ap, ◌∙◌, append_assoc, append-nil}
use Rattle.std.specs.Prelude.{Ok}
use Rattle.ch11_reader.specs.Skipping as reader
use Rattle.ch11_reader.specs.declared.skip.Skip.{Skip}
use Rattle.ch11_reader.proofs.Stretches.{in_turn}
use Rattle.ch11_stream.specs.declared.stretch.Stretch.{Stretch}
use Rattle.ch11_stream.specs.declared.stretch.Stretch.TheVariants.{Sound, Skipped}
use Rattle.ch11_stream.specs.Reading.{IsEnd, Reading, at_start, last_found}
use Rattle.ch11_stream.specs.Stretches.{IsNextStretch}
use Rattle.ch11_stream.specs.WholeStretches.{skipped_among}
use Rattle.ch11_stream.proofs.Skips.{IsBetween, between_end, between_skipped, between_sound, between_start}

pub record IsSkipping (file : List ℕ) (skips : List Skip) (now : Reading) : Type 0 where
  pub earlier : List reader.Stretch
  pub between : IsBetween file now earlier
  pub skipped : (others : List reader.Stretch) → reader.skips_among (in_turn earlier others) ≡ skips ++ reader.skips_among others

pub skipping_start : (file : List ℕ) → IsSkipping file [] (at_start (Some file))
skipping_start file = record { earlier = []; between = between_start file; skipped = λ others. refl }

pub skipping_on : (file : List ℕ) (skips : List Skip) (before now : Reading) (s : Stretch) → IsNextStretch (Ok (Some s)) before now → IsSkipping file skips before → IsSkipping file (skips ++ skipped_among (s ∷ [])) now
skipping_on file skips before now (Sound p) is g = record {
  earlier = reader.Read (last_found now p) ∷ g.earlier;
  between = between_sound file before now g.earlier p is g.between;
  skipped = λ others. g.skipped (reader.Read (last_found now p) ∷ others) ∙ ap (λ (xs : List Skip). xs ++ reader.skips_among others) (sym (append-nil skips));
}
skipping_on file skips before now (Skipped s) is g = record {
  earlier = reader.Skipped s ∷ g.earlier;
  between = between_skipped file before now g.earlier s is g.between;
  skipped = λ others. g.skipped (reader.Skipped s ∷ others) ∙ sym (append_assoc skips (s ∷ []) (reader.skips_among others));
}

pub skipping_all : (file : List ℕ) (skips : List Skip) (now last : Reading) → IsEnd now last → IsSkipping file skips now → skips ≡ reader.skips_in file
skipping_all file skips now last e g = sym (ap reader.skips_among (between_end file now last g.earlier e g.between) ∙ g.skipped [] ∙ append-nil skips)
