-- What is said of a line that was not posted (own choice).
use Rattle.std.specs.Prelude.{ℕ, ◌++◌, codes, decimal}
use Rattle.text_lines.specs.Words.{Text}
use Rattle.mil_host.specs.Printing.{fault_code}
use Rattle.bench_live.specs.declared.posting.PostFault.{PostFault}
use Rattle.bench_live.specs.declared.posting.PostFault.TheVariants as fault

abbrev pub told_text : ℕ → PostFault → Text
told_text line (fault.Line bad) = fault_code bad ++ (codes " line " ++ decimal line)
told_text line (fault.NoChannel channel) = codes "channel "
    ++ (decimal channel ++ (codes " is not there: line " ++ decimal line))
told_text line fault.NoTerminal = codes "E3 line " ++ decimal line
told_text line (fault.Spent channel) = codes "channel "
    ++ (decimal channel ++ (codes " takes no more than 65536 posts: line " ++ decimal line))
told_text line (fault.Ended channel) = codes "channel "
    ++ (decimal channel ++ (codes " has ended: line " ++ decimal line))
