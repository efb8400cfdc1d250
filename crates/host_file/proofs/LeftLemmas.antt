-- Where anything may be left, it may have been left before, and no step have been made.
use Rattle.std.proofs.Common.{ℕ, List, refl, sym, ap, append-nil}
use Rattle.host_model.specs.declared.host.FileNo.{FileNo}
use Rattle.host_model.specs.Files.{file_of}
use Rattle.host_model.specs.Disk.{Changes, Cut, Follows, SaysSome, Torn}
use Rattle.host_model.proofs.FileLemmas.{Cut-refl, Torn-refl}
use Rattle.host_file.specs.System.{any_left}

pub no_write : (file : FileNo) (at n before now : ℕ)
    → Follows (Changes file (Torn at n)) (any_left before) (any_left now)
no_write file at n before now = λ c left. (
  c,
  tt,
  record { changed = Torn-refl at n (file_of c file); other = λ f _. refl; said = refl },
)

pub no_cut : (file : FileNo) (n before now : ℕ)
    → Follows (Changes file (Cut n)) (any_left before) (any_left now)
no_cut file n before now = λ c left. (
  c,
  tt,
  record { changed = Cut-refl n (file_of c file); other = λ f _. refl; said = refl },
)

pub no_saying : (bytes : List ℕ) (before now : ℕ)
    → Follows (SaysSome bytes) (any_left before) (any_left now)
no_saying bytes before now = λ c left.
    (c, tt, (0, ap (λ (said : List ℕ). record c { said = said }) (sym (append-nil c.said))))
