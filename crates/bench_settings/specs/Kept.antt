-- The records of a channel that the queue took, where some were refused (own choice).
use Rattle.std.specs.Prelude.{ℕ, ◌==◌, Bool, not, List}
use Rattle.std.specs.List.{filter, list_any}
use Rattle.ch11_f1.specs.declared.Record.{Record}
use Rattle.ch11_builder.specs.Packet.{Numbered}
use Rattle.ch11_recording.specs.Items.{numbered_from}

-- the number is none of these
abbrev pub is_kept : List ℕ → Numbered → Bool
is_kept refused n = not (list_any (λ number. number == n.number) refused)

-- records, numbered from 1, but for the refused
abbrev pub kept_records : List ℕ → List Record → List Numbered
kept_records refused rs = filter (is_kept refused) (numbered_from 1 rs)
