-- What is told of a job that was tried (own choice): what is probably a mistake, a line for each, and how much room the
-- queue needs.
use Rattle.std.specs.Prelude.{ℕ, ◌^◌, ◌-◌, ◌==◌, Bool, true, false, if◌then◌else◌, List, [], ◌++◌, length, codes}
use Rattle.std.specs.Prelude.{decimal, nat_lt, string_bytes}
use Rattle.std.specs.List.{flat_map}
use Rattle.std.specs.Fmt.{digits, format_spec, padded_integral}
use Rattle.text_lines.specs.Words.{Text}
use Rattle.mil_host.specs.Printing.{action_text, data_text}
use Rattle.mil_line.specs.declared.faults.Fault.{Fault}
use Rattle.mil_line.specs.declared.faults.Fault.TheVariants.{Mask, Drop, Add, Late, Mute, Early}
use Rattle.mil_line.specs.declared.faults.Fault.TheVariants.{Pause, Babble}
use Rattle.mil_word.specs.declared.Sync.{Sync}
use Rattle.mil_word.specs.declared.Sync.TheVariants.{CommandSync, DataSync}
use Rattle.bc_machine.specs.declared.placed.Placed.{Placed}
use Rattle.bc_machine.specs.declared.placed.HostAction.{HostAction}
use Rattle.bc_machine.specs.declared.placed.HostAction.TheVariants.{Terminal, Controller}
use Rattle.controller_text.specs.Printing.{control_text}
use Rattle.bench_check.specs.declared.findings.Findings.{Findings}
use Rattle.bench_check.specs.declared.fitting.Tight.{Tight}
use Rattle.bench_check.specs.declared.frames.Overrun.{Overrun}
use Rattle.bench_check.specs.declared.mistakes.Mistake.{Mistake}
use Rattle.bench_check.specs.declared.mistakes.Mistake.TheVariants as kinds
use Rattle.bench_check.specs.FrameLines.{period, tenths_text}

-- half bits as ten upper-case hexadecimal digits
abbrev pub mask_text : ℕ → Text
mask_text half_bits = padded_integral (format_spec 32 0 4 10 (2 ^ 64 - 1)) false [] (digits 16 true half_bits)

abbrev pub sync_text : Sync → Text
sync_text CommandSync = codes "c"
sync_text DataSync = codes "d"

-- a planned fault as it stands in a job behind the number of its message
abbrev pub fault_text : Fault → Text
fault_text (Mask run index half_bits) =
    codes "mask " ++ (decimal run ++ (codes " " ++ (decimal index ++ (codes " " ++ mask_text half_bits))))
fault_text (Drop run index) = codes "drop " ++ (decimal run ++ (codes " " ++ decimal index))
fault_text (Add run index word) = codes "add " ++ (decimal run ++ (codes " " ++ (decimal index
    ++ (codes " " ++ (sync_text word.sync ++ (codes " " ++ data_text word.value))))))
fault_text (Late run ticks) = codes "late " ++ (decimal run ++ (codes " " ++ decimal ticks))
fault_text (Mute run) = codes "mute " ++ decimal run
fault_text (Early run ticks) = codes "early " ++ (decimal run ++ (codes " " ++ decimal ticks))
fault_text (Pause run index ticks) =
    codes "pause " ++ (decimal run ++ (codes " " ++ (decimal index ++ (codes " " ++ decimal ticks))))
fault_text (Babble run count word) =
    codes "babble " ++ (decimal run ++ (codes " " ++ (decimal count ++ (codes " " ++ data_text word))))

abbrev pub planned_text : ℕ → Fault → Text
planned_text number fault = codes "fault " ++ (decimal number ++ (codes " " ++ fault_text fault))

-- a placed action as it stands in a job
abbrev pub host_text : HostAction → Text
host_text (Terminal address action) = decimal address ++ (codes " " ++ action_text action)
host_text (Controller asked) = codes "bc " ++ control_text asked

abbrev pub placed_text : Placed → Text
placed_text p = codes "at " ++ (decimal p.number ++ (codes " " ++ host_text p.action))

abbrev pub unsent_line : ℕ → Fault → Text
unsent_line number fault = codes "  " ++ (planned_text number fault
    ++ (codes " meets nothing: message " ++ (decimal number ++ codes " is never sent\n")))

abbrev pub unmet_line : ℕ → Fault → Text
unmet_line number fault = codes "  " ++ (planned_text number fault
    ++ (codes " meets nothing: message " ++ (decimal number ++ codes " has no such run or word\n")))

-- how long a frame may take at worst
abbrev pub worst_text : ℕ → Text
worst_text ticks = tenths_text ticks ++ codes " us: late replies, each retry and each poll counted\n"

abbrev pub tight_line : Tight → Text
tight_line t = codes "  frame " ++ (decimal t.place ++ (codes " of the script, of " ++ (decimal (period t.hundreds)
    ++ (codes " us, may take " ++ worst_text t.ticks))))

abbrev pub more_line : ℕ → Text
more_line more = codes "  more frames that may take longer than their period: " ++ (decimal more ++ codes "\n")

-- by how much a frame ended late, in µs and in ticks
abbrev pub excess_text : ℕ → Text
excess_text ticks = tenths_text ticks ++ (codes " us (" ++ (decimal ticks ++ codes " ticks) too long\n"))

-- a frame that took longer than its period: its period, the number of the last message before its end, and by how much
-- it ended late, in µs and in ticks
abbrev pub overrun_line : Overrun → Text
overrun_line o = codes "  the frame of " ++ (decimal (period o.hundreds)
    ++ (codes " us that ends behind message " ++ (decimal o.number ++ (codes " is " ++ excess_text o.ticks))))

abbrev pub undone_line : Placed → Text
undone_line p = codes "  " ++ (placed_text p
    ++ (codes " is never done: message " ++ (decimal p.number ++ codes " is never sent\n")))

abbrev pub uncarried_line : Placed → Text
uncarried_line p = codes "  " ++ (placed_text p
    ++ codes " changes nothing: no message of the script carries such a word\n")

abbrev pub stranger_line : ℕ → ℕ → ℕ → Text
stranger_line address first count = codes "  terminal " ++ (decimal address
    ++ (codes " is not there, and message " ++ (decimal first
    ++ (codes " is the first of " ++ (decimal count ++ codes " that call it\n")))))

abbrev pub uncalled_line : ℕ → Text
uncalled_line address = codes "  terminal " ++ (decimal address ++ codes " is never called\n")

abbrev pub unfilled_line : ℕ → ℕ → ℕ → Text
unfilled_line address sub first = codes "  terminal " ++ (decimal address
    ++ (codes " transmits from subaddress " ++ (decimal sub
    ++ (codes " in message " ++ (decimal first ++ codes ", and no words were put up there\n")))))

abbrev pub left_line : ℕ → ℕ → Text
left_line first count = codes "  message " ++ (decimal first ++ (codes " is the first of " ++ (decimal count
    ++ codes " that are answered with message_error and not sent again\n")))

-- a line of a job that was never due, and what it says
abbrev pub never_due_line : ℕ → Text → Text
never_due_line line words = codes "  line " ++ (decimal line ++ (codes " is never due: " ++ (words ++ codes "\n")))

-- at how many messages more
abbrev pub more_text : ℕ → Text
more_text more = if nat_lt 0 more then codes " and " ++ (decimal more ++ codes " more") else []

-- a line of a job whose fault comes behind four others at a message, and what it says
abbrev pub left_out_line : ℕ → ℕ → ℕ → Text → Text
left_out_line line first more words = codes "  line " ++ (decimal line
    ++ (codes " is not planned for message " ++ (decimal first ++ (more_text more
    ++ (codes ", where four others come first: " ++ (words ++ codes "\n"))))))

-- the line of a mistake
abbrev pub mistake_line : Mistake → Text
mistake_line (kinds.Unsent number fault) = unsent_line number fault
mistake_line (kinds.Unmet number fault) = unmet_line number fault
mistake_line (kinds.Tight t) = tight_line t
mistake_line (kinds.MoreTight more) = more_line more
mistake_line (kinds.Late o) = overrun_line o
mistake_line (kinds.Undone p) = undone_line p
mistake_line (kinds.Uncarried p) = uncarried_line p
mistake_line (kinds.Stranger address first count) = stranger_line address first count
mistake_line (kinds.Uncalled address) = uncalled_line address
mistake_line (kinds.Unfilled address sub first) = unfilled_line address sub first
mistake_line (kinds.Left first count) = left_line first count
mistake_line (kinds.NeverDue line words) = never_due_line line (string_bytes words)
mistake_line (kinds.LeftOut line first more words) = left_out_line line first more (string_bytes words)

-- the lines of these mistakes, or that there is none
abbrev pub mistakes_text : List Mistake → Text
mistakes_text ms =
    if length ms == 0
    then codes "nothing looks like a mistake\n"
    else codes "probably a mistake:\n" ++ flat_map mistake_line ms

-- how many messages there are, and how many of them have an error
abbrev pub summary_line : ℕ → ℕ → Text
summary_line made failed =
    codes "messages " ++ (decimal made ++ (codes ", with an error " ++ (decimal failed ++ codes "\n")))

-- how much room the queue needs
abbrev pub queue_line : ℕ → Text
queue_line room =
    codes "queue " ++ (decimal room ++ codes ": with room for so many nothing of this job is refused\n")

-- what a summary begins with
abbrev pub head : Bool → Findings → Text
head false f = []
head true f = summary_line f.made f.oddities.failed

abbrev pub findings_text : Bool → Findings → List Mistake → Text
findings_text is_summary f mistakes = head is_summary f ++ (mistakes_text mistakes ++ queue_line f.room)
