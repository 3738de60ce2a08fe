-- The proof that `typed` meets its contract.
use mathlib.Core.List.{[], ◌∷◌}
use Rattle.index_write.proofs.Answers.{fit_append}
use Rattle.index_write.proofs.typed.Goals as goal

pub returns : goal.returns
returns c =
    let x = c.args.fields in
    record {
      numbers =
          fit_append
          (x.ctime_seconds ∷ x.ctime_nanoseconds ∷ x.mtime_seconds ∷ x.mtime_nanoseconds ∷ x.dev ∷ [])
          (x.ino ∷ x.mode ∷ x.uid ∷ x.gid ∷ x.size ∷ [])
          c.five_typed.ensures
          c.five_typed-2.ensures;
      object = c.object_typed.ensures;
    }
