-- How a file that a command writes is told by its beginning (own choice, but for the sync pattern of a packet:
-- IRIG 106-17 Chapter 11, 11.2.1.1).
use Rattle.std.specs.Prelude.{◌||◌, ◌&&◌, ◌∷◌, [], ℕ, List, Bool, true, codes, nat_eq}
use Rattle.std.specs.List.{starts_with, after_first}
use Rattle.text_lines.specs.Lines.{is_line_end}
use Rattle.bench_files.specs.declared.kind.Kind.{Kind}
use Rattle.bench_files.specs.declared.kind.Kind.TheVariants.{Recording, Report, Image, Rows, Picture, Verdicts}
use Rattle.bench_files.specs.declared.kind.Kind.TheVariants.{Waves, Page, Job}

-- the count of packets, or a channel with what it made (a job begins with its channel too)
abbrev pub is_report : List ℕ → Bool
is_report bytes = starts_with nat_eq bytes (codes "packets ")
    || (starts_with nat_eq bytes (codes "channel ")
    && starts_with nat_eq (after_first is_line_end bytes) (codes "made "))

-- an empty file is of every kind; a job that somebody wrote is none that a command wrote
abbrev pub is_of_kind : Kind → List ℕ → Bool
is_of_kind kind [] = true
is_of_kind Recording (b ∷ rest) = starts_with nat_eq (b ∷ rest) (0x25 ∷ 0xEB ∷ [])
is_of_kind Report (b ∷ rest) = is_report (b ∷ rest)
is_of_kind Image (b ∷ rest) = starts_with nat_eq (b ∷ rest) (codes "BC0")
is_of_kind Rows (b ∷ rest) = starts_with nat_eq (b ∷ rest) (codes "number,channel,")
is_of_kind Picture (b ∷ rest) = starts_with nat_eq (b ∷ rest) (codes "<svg ")
is_of_kind Verdicts (b ∷ rest) = starts_with nat_eq (b ∷ rest) (codes "<?xml ")
is_of_kind Waves (b ∷ rest) = starts_with nat_eq (b ∷ rest) (codes "$comment kind: ")
is_of_kind Page (b ∷ rest) = starts_with nat_eq (b ∷ rest) (codes "<!DOCTYPE html>")
is_of_kind Job (b ∷ rest) = starts_with nat_eq (b ∷ rest) (codes "# What was recorded of channel ")
