-- A step at any depth reads less where what is written for a node does.
use Rattle.mini_model.specs.declared.place.Position.{Position}
use Rattle.mini_model.specs.Rewriting.{Step}
use Rattle.mini_model.specs.Tree.{Tree}
use Rattle.mini_laws.specs.Value.{Declared}
use Rattle.mini_kept.specs.KeepsShapes.{KeepsShapes}
use Rattle.mini_kept.specs.Lifted.{KeepsNames}
use Rattle.mini_shrink.specs.Facts.{question, ReadsLess}
use Rattle.mini_shrink.proofs.Fitting.{Fitting, fewer_there, names_there, shapes_there, step_there}
use Rattle.mini_shrink.proofs.Lifting.{step_less}
use Rattle.mini_shrink.proofs.Owns.{callee_less, eval_less, arguments_less, number_less}
use Rattle.mini_shrink.proofs.Programs.{looks_up, own_shrinks}
use Rattle.mini_kept.proofs.Initializers.{init_stays}
use Rattle.mini_less.specs.Families.{LessAt}
use Rattle.mini_less.proofs.LessRows.{reads_less_by}

module _ (R : Position → Tree → Tree → Type 0) (l : KeepsNames R) (shapes : KeepsShapes R) (reads : ReadsLess R) where
  pub steps_less : (p : Position) (n w : Tree) → Step R p n w → LessAt p n w
  steps_less p n w z = record {
    asks = λ f b s. record {
      by = λ strict slot o k c env st sc.
          step_less (Fitting R) (names_there R l) (init_stays (Fitting R) (shapes_there R shapes)) (Declared s) (question f b s) (looks_up f b s) (own_shrinks (Fitting R) (shapes_there R shapes) (fewer_there R reads.fewer) f b s) (λ p n w r. reads.less f b s p n w r.0)
          (step_there R l z strict slot o k) strict slot o k c env st sc;
    };
    fewer = λ strict slot o k.
        let there = step_there R l z strict slot o k in
        record {
          eval = eval_less (Fitting R) (fewer_there R reads.fewer) there;
          flags = record { arguments = arguments_less (Fitting R) (fewer_there R reads.fewer) there; number = λ b. number_less (Fitting R) (fewer_there R reads.fewer) b there };
          callee = callee_less (Fitting R) (fewer_there R reads.fewer) there;
        };
  }

  pub steps_read_less : ReadsLess (Step R)
  steps_read_less = reads_less_by (Step R) steps_less
