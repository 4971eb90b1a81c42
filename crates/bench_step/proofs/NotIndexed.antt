-- A recording that was not indexed.
use Rattle.std.proofs.Common.{List, ℕ}
use Rattle.std.specs.Prelude.{Err}
use Rattle.job_file.specs.Jobs.{JobState}
use Rattle.ch11_reader.specs.declared.error.ReadError.{ReadError}
use Rattle.ch11_reader.specs.declared.error.ReadError.TheVariants as unread
use Rattle.ch11_reader.specs.Recording.{ReadsRecording, packets_in}
use Rattle.bench_report.specs.Reports.{ChannelPart}
use Rattle.bench_step.specs.Answering.{IsOpeningRefusal, fault_of}

pub not_indexed : (jobs : List JobState) (parts : List ChannelPart) (recording : List ℕ) (e : ReadError) → ReadsRecording (Err e) (packets_in recording)
    → IsOpeningRefusal jobs parts recording (fault_of e)
not_indexed jobs parts recording (unread.Refused r) read = read
not_indexed jobs parts recording unread.Memory read = read
