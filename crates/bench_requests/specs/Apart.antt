-- When two names lead to one file (own choice).
use Rattle.std.specs.Prelude.{◌==◌, ◌&&◌, Bool, false, bytes_eq}
use Rattle.bench_requests.specs.declared.apart.Place.{Place}
use Rattle.bench_requests.specs.declared.apart.Place.TheVariants.{File, Free}

-- one file that is there, by device and inode; or one name in one folder. Streams are never the same: nothing is lost
-- there.
abbrev pub is_same_place : Place → Place → Bool
is_same_place (File device inode) (File others_device others_inode) = device == others_device && inode == others_inode
is_same_place (Free device inode name) (Free others_device others_inode others_name) =
    device == others_device && inode == others_inode && bytes_eq name.now others_name.now
is_same_place _ _ = false
