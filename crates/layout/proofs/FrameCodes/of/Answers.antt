-- `layout::FrameCodes::of` meets its contract. Assumes nothing.
use Rattle.std.proofs.Common.{◌≡◌, ap, arith, List, ℕ, ◌%◌, get_or}
use Rattle.layout.specs.Sectors.{code_of, frame_codes}
use Rattle.layout.proofs.Places.{code_small}
use Rattle.layout.proofs.FrameCodes.of.Goals as goal

pub returns : goal.returns
unfolding code_of
returns c =
    let f = c.args.f in
    let e : get_or c.args.self.now.codes (f % 26) 0 ≡ get_or frame_codes (f % 26) 0 = ap (λ (t : List ℕ). get_or t (f % 26) 0) c.args.self.now.sound in
    record {
      value = e;
      upper_bound = omega (arith, e, code_small f);
    }
