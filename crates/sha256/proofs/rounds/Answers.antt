-- `sha256::rounds` meets its contract: what each two rounds ensure is what the next ask. Assumes nothing.
use Rattle.sha256.proofs.rounds.Goals as goal

pub returns : goal.returns
returns c = λ m a.
    let h = c.args.h in
    let a1 = c.two-s.ensures h m a in
    let a2 = c.two-s-2.ensures h m a1 in
    let a3 = c.two-s-3.ensures h m a2 in
    let a4 = c.two-s-4.ensures h m a3 in
    let a5 = c.two-s-5.ensures h m a4 in
    let a6 = c.two-s-6.ensures h m a5 in
    let a7 = c.two-s-7.ensures h m a6 in
    let a8 = c.two-s-8.ensures h m a7 in
    let a9 = c.two-s-9.ensures h m a8 in
    let a10 = c.two-s-10.ensures h m a9 in
    let a11 = c.two-s-11.ensures h m a10 in
    let a12 = c.two-s-12.ensures h m a11 in
    let a13 = c.two-s-13.ensures h m a12 in
    let a14 = c.two-s-14.ensures h m a13 in
    let a15 = c.two-s-15.ensures h m a14 in
    let a16 = c.two-s-16.ensures h m a15 in
    let a17 = c.two-s-17.ensures h m a16 in
    let a18 = c.two-s-18.ensures h m a17 in
    let a19 = c.two-s-19.ensures h m a18 in
    let a20 = c.two-s-20.ensures h m a19 in
    let a21 = c.two-s-21.ensures h m a20 in
    let a22 = c.two-s-22.ensures h m a21 in
    let a23 = c.two-s-23.ensures h m a22 in
    let a24 = c.two-s-24.ensures h m a23 in
    let a25 = c.two-s-25.ensures h m a24 in
    let a26 = c.two-s-26.ensures h m a25 in
    let a27 = c.two-s-27.ensures h m a26 in
    let a28 = c.two-s-28.ensures h m a27 in
    let a29 = c.two-s-29.ensures h m a28 in
    let a30 = c.two-s-30.ensures h m a29 in
    let a31 = c.two-s-31.ensures h m a30 in
    c.two.ensures h m a31
