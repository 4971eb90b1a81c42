-- What is said of a job that was written for a recorded channel (own choice).
use Rattle.std.specs.Prelude.{◌≡◌, ℕ, List, Some}
use Rattle.ch11_layout.specs.Stamps.{Recorded}
use Rattle.ch11_reader.specs.Indexed.{found_in}
use Rattle.ch11_reader.specs.Recording.{packets_in}
use Rattle.std.specs.Prelude.{Ok}
use Rattle.bench_compare.specs.Laws.{AreSameReadings}
use Rattle.job_file.specs.Spelled.{ChannelJob, spelled}
use Rattle.bench_reproduce.specs.Readings.{messages_in, run_of}
use Rattle.bench_reproduce.specs.Sameness.{places, same_in}

-- so many messages were compared with what running the job of a text gives, and so many were the same
pub record IsRun (text : List ℕ) (xs : List Recorded) (messages same : ℕ) : Type 0 where
  pub job : ChannelJob
  pub spells : spelled text ≡ Some job
  pub counted : messages ≡ places xs (run_of job)
  pub alike : same ≡ same_in xs (run_of job)

-- the text is a job, and running it gives the messages of the channel
pub record Plays (text file : List ℕ) (channel : ℕ) : Type 0 where
  pub job : ChannelJob
  pub spells : spelled text ≡ Some job
  pub alike : AreSameReadings 0 (messages_in channel (found_in file)) (run_of job)

-- the same of what was read of a channel of a file
pub record IsReproduced (text file : List ℕ) (channel messages same : ℕ) : Type 0 where
  pub readable : packets_in file ≡ Ok (found_in file)
  pub run : IsRun text (messages_in channel (found_in file)) messages same
