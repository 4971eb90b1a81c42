-- Listings whose reader goes away (own choice).
use Rattle.std.specs.Prelude.{◌≡◌, ◌≢◌, ◌&&◌, Bool, false, bytes_eq, codes}
use Rattle.std.specs.declared.io.ErrorKind.{ErrorKind}
use Rattle.std.specs.declared.io.ErrorKind.TheVariants.{BrokenPipe}
use Rattle.bench_requests.specs.declared.fault.CommandFault.{CommandFault}
use Rattle.bench_requests.specs.declared.fault.CommandFault.TheVariants.{Device, System}

-- the error of a pipe that nobody reads any more
abbrev pub IsClosed : ErrorKind → Type 0
IsClosed kind = kind ≡ BrokenPipe

abbrev pub IsOther : ErrorKind → Type 0
IsOther kind = kind ≢ BrokenPipe

-- a fault of the standard output, as it is named
abbrev pub is_of_output : CommandFault → Bool
is_of_output (Device name) = bytes_eq name.now (codes "-")
is_of_output (System name code) = bytes_eq name.now (codes "-")
is_of_output _ = false

-- whether a fault says no more than that the reader has gone
abbrev pub is_over : Bool → CommandFault → Bool
is_over is_gone fault = is_gone && is_of_output fault
