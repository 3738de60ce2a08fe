-- What a file that was read says: its tests, its version, its entries and where they end. For any width and hash.
use mathlib.Core.Path.{◌≡◌, sym, ap}
use mathlib.Core.List.{List}
use mathlib.Core.Bool.{true, ◌&&◌}
use Prim.Native.Nat.{ℕ, ◌+◌}
use lib.ListN.{length, take, drop}
use lib.Dec.{leb}
use Rattle.format.specs.Bytes.{be32, eq_list}
use Rattle.format.specs.Records.{start}
use Rattle.format.specs.Layout.{DIRC}
use Rattle.format.specs.Reading.{good}
use Rattle.format.specs.Reader.{Contents, read_entries, read_body, read_file}
use Rattle.format.specs.Places.{body_in}
use Rattle.format_laws.proofs.Readings.{good-inv, need-inv, shift-inv, bind_inv}

pub record Says (w : ℕ) (f : List ℕ) (c : Contents) : Type 0 where
  pub long : leb (12 + w) (length f) ≡ true
  pub signed : eq_list (take 4 f) DIRC ≡ true
  pub known : (leb 2 (be32 f 4) && leb (be32 f 4) 4) ≡ true
  pub version : c.version ≡ be32 f 4
  pub size : ℕ
  pub end : c.end ≡ 12 + size
  pub entries : read_entries w (be32 f 4) (be32 (body_in w f) 8) start 12 (drop 12 (body_in w f)) ≡ good c.records.entries size

pub file-says : (w : ℕ) (hash : List ℕ → List ℕ) (f : List ℕ) (c : Contents) (m : ℕ) → read_file w hash f ≡ good c m → Says w f c
unfolding read_file read_body
file-says w hash f c m q =
    need-inv _ _ _ _ _ _ q λ long q₁.
    need-inv _ _ _ _ _ _ q₁ λ short q₂.
    need-inv _ _ _ _ _ _ q₂ λ signed q₃.
    need-inv _ _ _ _ _ _ q₃ λ known q₄.
    need-inv _ _ _ _ _ _ q₄ λ right q₅.
    shift-inv _ _ _ _ q₅ λ i q₆ i-is.
    bind_inv _ _ _ _ q₆ λ es a b q₇ q₈ b-is.
    bind_inv _ _ _ _ q₈ λ xs d e q₉ q₁₀ e-is.
    good-inv _ _ _ _ q₁₀ λ c-is d-is.
    record {
      long = long;
      signed = signed;
      known = known;
      version = sym (ap (λ (x : Contents). x.version) c-is);
      size = a;
      end = sym (ap (λ (x : Contents). x.end) c-is);
      entries = rw (← (ap (λ (x : Contents). x.records.entries) c-is)) q₇;
    }
