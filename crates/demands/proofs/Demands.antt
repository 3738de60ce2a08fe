-- The demands hold for every kind, and so for SHA-1 and SHA-256. Each line names the theorem that proves it.
use mathlib.Core.List.{List}
use mathlib.Core.Bool.{false}
use mathlib.Core.Path.{◌≡◌, refl, ◌∙◌}
use Prim.Native.Nat.{ℕ}
use lib.ListN.{length, take}
use Rattle.answers.specs.Answers.{too_small}
use Rattle.answers.proofs.Laws.{room_small, room-large}
use Rattle.spelling.proofs.File as spelling
use Rattle.kinds.specs.Kinds.{width_of, hash_of, read_kind}
use Rattle.kinds.proofs.Laws.{length-hash, known-file, unknown-file, file-known}
use Rattle.demands.proofs.Statements.{Demand1, Demand2, AskedVersions, Demand3, ZeroedTails, NoneMixed}
use Rattle.demands.proofs.Asked.{asked-versions}
use Rattle.demands.proofs.Tails.{zeroed-tails}
use Rattle.demands.proofs.Stages.{none-mixed}
use Rattle.demands.proofs.Written.{rewritten, put_in, removed, filled}
use Rattle.demands.proofs.Proved.{read_by, all-refuse, left, zeroed, name-left, file-read, guarded, accepted-inv, checked, entry-shown, node-shown, undo-shown, exact, cut-rule}

module _ (kind : ℕ) (work : List ℕ) where
  abbrev w : ℕ
  w = width_of kind

  abbrev hash : List ℕ → List ℕ
  hash = hash_of kind

  width : (b : List ℕ) → length (hash b) ≡ w
  width = length-hash kind

  pub demand1 : Demand1 kind work
  demand1 = record {
    small = λ small f.
        let (checked, shown, asked) = all-refuse w hash work (read_kind kind f) 19 0 (room_small work (read_kind kind f) small) in
        (checked, left work small, λ k. let (e, after, n, u) = shown k in (e, after ∙ left work small, n, u), asked);
    unknown = λ room unknown f. all-refuse w hash work (read_kind kind f) 29 0 (room-large work (read_kind kind f) room ∙ unknown-file kind f unknown);
    zeroed = zeroed work;
    shown = λ f. name-left w hash work width f (read_kind kind f) (read_by kind f);
    left = λ out n p. refl;
    filled = filled;
  }

  module _ (room : too_small work ≡ false) where
    pub demand2 : Demand2 kind work
    demand2 = record {
      refusals = λ f n p e.
          let (checked, shown, asked) = all-refuse w hash work (read_kind kind f) n p (room-large work (read_kind kind f) room ∙ e) in
          (checked, λ k. let (e, _, n, u) = shown k in (e, n, u), asked);
      records = λ f. file-read w hash work width f (read_kind kind f) (read_by kind f) room;
      guarded = λ f. guarded w hash work width f (read_kind kind f) (read_by kind f) room;
      rewritten = rewritten kind work;
      put_in = λ f asked most e is. put_in kind work f asked most is e;
      removed = λ f asked most k is. removed kind work f asked most is k;
    }

    pub versions : AskedVersions kind work
    versions = asked-versions kind work room

    pub demand3 : Demand3 kind work
    demand3 = record {
      exact = λ known f bytes. rw (known-file kind f known) (exact w hash work width room f bytes);
      one = λ f r q. spelling.one w hash width r q f;
      counts = λ known f r h. rw (known-file kind f known) (checked w hash work width room f r h);
      entries = λ known f r k h. rw (known-file kind f known) (entry-shown w hash work width room f r h k);
      nodes = λ known f r k h. rw (known-file kind f known) (node-shown w hash work width room f r h k);
      undos = λ known f r k h. rw (known-file kind f known) (undo-shown w hash work width room f r h k);
      cuts = λ f c s bytes _ e.
          accepted-inv work (read_kind kind f) s room e λ d m q.
          file-known kind f d m q λ known _.
          rw (known-file kind (take c f) known, known-file kind f known) (cut-rule w hash work width room f c s bytes (rw (known-file kind f known) at e));
    }

    pub tails : ZeroedTails kind work
    tails = zeroed-tails kind work room demand3

    pub stages : NoneMixed kind work
    stages = none-mixed kind work room demand3

-- the demands of a kind, and what is said beside them: all but demand 1 with the workspace that document 01 asks for
abbrev pub Demands : ℕ → Type 0
Demands kind = (work : List ℕ) → Demand1 kind work × (too_small work ≡ false → Demand2 kind work × AskedVersions kind work × Demand3 kind work × ZeroedTails kind work × NoneMixed kind work)

pub every-kind : (kind : ℕ) → Demands kind
every-kind kind work = (demand1 kind work, λ room. (demand2 kind work room, versions kind work room, demand3 kind work room, tails kind work room, stages kind work room))

pub sha1-demands : Demands 1
sha1-demands = every-kind 1

pub sha256-demands : Demands 2
sha256-demands = every-kind 2
