-- The names of the bits that are set of a status word (MIL-STD-1553B 4.3.3.5.3) and of a block status word (IRIG 106-17
-- Chapter 11, MIL-STD-1553 bus data packets, Format 1), each behind a space. The line is told elsewhere.
use Rattle.std.specs.Prelude.{ℕ, Bool, ◌||◌, if◌then◌else◌, List, [], ◌∷◌, ◌++◌, codes}
use Rattle.mil_word.specs.Fields.{has_message_error, has_instrumentation, has_service_request, has_busy}
use Rattle.mil_word.specs.Fields.{has_broadcast_received, has_subsystem_flag, has_control_acceptance}
use Rattle.mil_word.specs.Fields.{has_terminal_flag}
use Rattle.ch11_layout.specs.BlockStatus.{has_error, is_transfer, has_format_error, has_response_timeout}
use Rattle.ch11_layout.specs.BlockStatus.{has_word_count_error, has_sync_type_error, has_invalid_word_error}
use Rattle.bench_decode.specs.Columns.{Part, text, begin_red, end_red}
use Rattle.bench_decode.specs.Superseding.{has_reserved}

unfoldable pub named : Bool → List ℕ → List Part
named set name = if set then text name ∷ [] else []

unfoldable pub status_names : ℕ → List Part
status_names status =
    named (has_message_error status) (codes " message_error")
    ++ (named (has_instrumentation status) (codes " instrumentation")
    ++ (named (has_service_request status) (codes " service_request")
    ++ (named (has_reserved status) (codes " reserved")
    ++ (named (has_broadcast_received status) (codes " broadcast")
    ++ (named (has_busy status) (codes " busy")
    ++ (named (has_subsystem_flag status) (codes " subsystem")
    ++ (named (has_control_acceptance status) (codes " control")
    ++ named (has_terminal_flag status) (codes " terminal"))))))))

-- whether a bit tells of a kind of error
abbrev pub tells_kind : ℕ → Bool
tells_kind block =
    has_format_error block
    || (has_response_timeout block
    || (has_word_count_error block || (has_sync_type_error block || has_invalid_word_error block)))

unfoldable pub kind_names : ℕ → List Part
kind_names block =
    named (has_format_error block) (codes " format_error")
    ++ (named (has_response_timeout block) (codes " response_timeout")
    ++ (named (has_word_count_error block) (codes " word_count_error")
    ++ (named (has_sync_type_error block) (codes " sync_type_error")
    ++ named (has_invalid_word_error block) (codes " invalid_word_error"))))

unfoldable pub error_parts : ℕ → List Part
error_parts block =
    if has_error block then begin_red ∷ text (codes " message_error") ∷ end_red ∷ [] else []

unfoldable pub kind_parts : ℕ → List Part
kind_parts block = if tells_kind block then begin_red ∷ (kind_names block ++ end_red ∷ []) else []

unfoldable pub block_parts : ℕ → List Part
block_parts block =
    error_parts block ++ (named (is_transfer block) (codes " terminal_to_terminal") ++ kind_parts block)

-- whether a bit has a name, but that of the line
abbrev pub has_names : ℕ → Bool
has_names block = has_error block || (is_transfer block || tells_kind block)
