use Rattle.lockview.proofs.serving.queue_drawing.Goals as goal

pub returns : goal.returns
returns c =
    let told = c.in_ok-drawing.ensures in
    record {
      bars = told.bars;
      columns = told.named;
      lanes = told.lanes;
      waits = told.waits;
      arrows = told.arrows;
      locks = told.locks;
      line = told.at;
    }
