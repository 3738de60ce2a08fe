-- SoundRecords resolve-undo records spell what is written of them, and those that are spelled are sound.
use mathlib.Core.Path.{◌≡◌, refl}
use mathlib.Core.List.{List, []}
use mathlib.Core.Bool.{Bool, true, false, cond}
use Prim.Native.Nat.{ℕ}
use lib.ListN.{length, replicate}
use lib.Dec.{eqb}
use Rattle.format.specs.Records.{Stage, Undo}
use Rattle.format.specs.Layout.{when, ok_mode, IsStage, IsUndo, Undos, undos_end, undos_more}
use Rattle.format.specs.Writer.{write_stage, write_undo, write_undos}
use Rattle.writing.specs.Sound.{SoundStage, SoundUndo, SoundUndos, undos_none, undos_next}

-- ---- what is written is spelled

stage-written : (w : ℕ) (x : Stage) → SoundStage w x → IsStage w x (write_stage x)
unfolding write_stage
stage-written w x h = go (eqb x.mode 0) h
  where
    go : (t : Bool) → when t (x.object ≡ replicate w 0) ((ok_mode x.mode ≡ true) × (length x.object ≡ w))
        → when t ((x.object ≡ replicate w 0) × (cond t [] x.object ≡ [])) ((ok_mode x.mode ≡ true) × (length x.object ≡ w) × (cond t [] x.object ≡ x.object))
    go true k = (k, refl)
    go false k = (k.0, k.1, refl)

undo-written : {w : ℕ} {previous : List ℕ} {u : Undo} → SoundUndo w previous u → IsUndo w previous u (write_undo u)
unfolding write_undo
undo-written {w} {u = u} h = record {
  path = h.path;
  order = h.order;
  stages = h.stages;
  first_bytes = write_stage u.first;
  second_bytes = write_stage u.second;
  third_bytes = write_stage u.third;
  first = stage-written w u.first h.first;
  second = stage-written w u.second h.second;
  third = stage-written w u.third h.third;
  bytes = refl;
}

pub undos-written : {w : ℕ} {previous : List ℕ} {us : List Undo} → SoundUndos w previous us → Undos w previous us (write_undos us)
unfolding write_undos
undos-written undos_none = undos_end
undos-written (undos_next h t) = undos_more (undo-written h) (undos-written t)

-- ---- what is spelled is sound

stage-sound : (w : ℕ) (x : Stage) (a : List ℕ) → IsStage w x a → SoundStage w x
stage-sound w x a h = go (eqb x.mode 0) h
  where
    go : (t : Bool) → when t ((x.object ≡ replicate w 0) × (a ≡ [])) ((ok_mode x.mode ≡ true) × (length x.object ≡ w) × (a ≡ x.object))
        → when t (x.object ≡ replicate w 0) ((ok_mode x.mode ≡ true) × (length x.object ≡ w))
    go true k = k.0
    go false k = (k.0, k.1)

undo-sound : {w : ℕ} {previous : List ℕ} {u : Undo} {a : List ℕ} → IsUndo w previous u a → SoundUndo w previous u
undo-sound {w} {u = u} h = record {
  path = h.path;
  order = h.order;
  stages = h.stages;
  first = stage-sound w u.first h.first_bytes h.first;
  second = stage-sound w u.second h.second_bytes h.second;
  third = stage-sound w u.third h.third_bytes h.third;
}

pub undos-sound : {w : ℕ} {previous : List ℕ} {us : List Undo} {a : List ℕ} → Undos w previous us a → SoundUndos w previous us
undos-sound undos_end = undos_none
undos-sound (undos_more h t) = undos_next (undo-sound h) (undos-sound t)
